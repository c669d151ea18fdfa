-- What the header fields of a reply say.
use Rattle.std.specs.Prelude.{◌==◌, ℕ, Bool, true, false, List, [], ◌∷◌, codes, if◌then◌else◌, Option, Some, None}
use Rattle.http_header.specs.FieldValue.{FieldValue, plain_value}
use Rattle.http_header.specs.HeaderMap.{Entry, Entries, insert}
use Rattle.http_routes.specs.Asked.{AskedValue, nowhere, other_method, known}
use Rattle.http_routes.specs.Table.{methods_text}
use Rattle.http_routes.specs.declared.table.Content.{Content}
use Rattle.http_routes.specs.declared.table.Content.TheVariants.{Text, Json, Page}
use Rattle.http_routes.specs.declared.table.Methods.{Methods}
use Rattle.http_routes.specs.declared.table.Tagging.TheVariants.{Untagged}
use Rattle.operator_page.specs.declared.page.TheConstants.{POLICY}
use Rattle.http_exchange.specs.declared.labels.Labels.{Labels}

-- a text
abbrev pub plain_labels : Labels
plain_labels = record { content = Text; methods = None; asks_for_key = false; tagging = Untagged }

-- a text that says that a key has to be sent
abbrev pub key_labels : Labels
key_labels = record { content = Text; methods = None; asks_for_key = true; tagging = Untagged }

-- the labels of a reply with this status, by what its request asks for: with 200 those of the route's row, and with 405
-- the methods that the route has
abbrev pub labels_of : AskedValue → ℕ → Labels
labels_of nowhere status = plain_labels
labels_of (other_method methods) status =
    if status == 405 then record plain_labels { methods = Some methods } else plain_labels
labels_of (known request row) status =
    if status == 200 then record plain_labels { content = row.content; tagging = row.tagging } else plain_labels

abbrev pub content_text : Content → List ℕ
content_text Text = codes "text/plain; charset=utf-8"
content_text Json = codes "application/json"
content_text Page = codes "text/html; charset=utf-8"

abbrev pub field : List ℕ → List ℕ → Entry FieldValue
field name value = (name, plain_value value ∷ [])

-- what a body is: no browser guesses another type than the one that is said
abbrev pub type_fields : Content → Entries FieldValue
type_fields content =
    field (codes "content-type") (content_text content) ∷ field (codes "x-content-type-options") (codes "nosniff") ∷ []

-- fields, and what a browser is to hold a page to: its own style and script, and requests of its own node, alone; that
-- it isn't kept; and that nobody is told where it was
abbrev pub with_policy : Entries FieldValue → Entries FieldValue
with_policy fields =
    insert (insert (insert fields (codes "content-security-policy") (plain_value POLICY.now))
    (codes "cache-control") (plain_value (codes "no-store")))
    (codes "referrer-policy") (plain_value (codes "no-referrer"))

abbrev pub with_policy_of : Content → Entries FieldValue → Entries FieldValue
with_policy_of Page fields = with_policy fields
with_policy_of _ fields = fields

abbrev pub with_methods : Option Methods → Entries FieldValue → Entries FieldValue
with_methods None fields = fields
with_methods (Some methods) fields = insert fields (codes "allow") (plain_value (methods_text methods))

-- fields, and how a key has to be sent
abbrev pub with_challenge : Bool → Entries FieldValue → Entries FieldValue
with_challenge false fields = fields
with_challenge true fields = insert fields (codes "www-authenticate") (plain_value (codes "Bearer"))

-- fields, and the tag of the body, if it has one
abbrev pub with_tag : Option FieldValue → Entries FieldValue → Entries FieldValue
with_tag None fields = fields
with_tag (Some tag) fields = insert fields (codes "etag") tag

-- the fields, in their order
abbrev pub label_fields : Labels → Entries FieldValue
label_fields labels =
    with_challenge labels.asks_for_key
    (with_methods labels.methods (with_policy_of labels.content (type_fields labels.content)))
