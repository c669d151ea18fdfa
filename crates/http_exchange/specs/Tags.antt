-- The tag of a reply's body, and the requests whose clients have that body.
use Rattle.std.specs.Prelude.{◌==◌, ◌||◌, ◌++◌, ℕ, Bool, List, [], ◌∷◌, length, codes, bytes_eq, if◌then◌else◌, Option, Some, None}
use Rattle.std.specs.List.{list_any, slice_split}
use Rattle.sha2.specs.Sha256.{sha256}
use Rattle.hex.specs.Hex.{encode_lower}
use Rattle.http_header.specs.FieldValue.{FieldValue, plain_value}
use Rattle.http_header.specs.HeaderMap.{Entries, get_all}
use Rattle.http_routes.specs.declared.table.Tagging.{Tagging}
use Rattle.http_routes.specs.declared.table.Tagging.TheVariants.{Tagged, Untagged}

-- the SHA-256 of a body in hex digits, between quotes
abbrev pub quoted_hash : List ℕ → List ℕ
quoted_hash body = 34 ∷ encode_lower (sha256 body) ++ 34 ∷ []

-- the tag of a body that is told with one, if there is a body
abbrev pub tag_of : Tagging → List ℕ → Option FieldValue
tag_of Untagged body = None
tag_of Tagged body = if length body == 0 then None else Some (plain_value (quoted_hash body))

-- a comma, a space or a tab
abbrev pub is_between_tags : ℕ → Bool
is_between_tags byte = byte == 44 || byte == 32 || byte == 9

-- a word of a list stands for a tag: it is the tag, or that of a body which says as much (`W/`), or any tag (`*`)
abbrev pub stands_for : List ℕ → List ℕ → Bool
stands_for tag word = bytes_eq word tag || bytes_eq word (codes "W/" ++ tag) || bytes_eq word (codes "*")

-- some word of a list does
abbrev pub lists : List ℕ → List ℕ → Bool
lists tag list = list_any (stands_for tag) (slice_split is_between_tags list)

-- a request with these fields says that its client has the body with this tag
abbrev pub is_had : FieldValue → Entries FieldValue → Bool
is_had tag fields = list_any (λ value. lists tag.bytes value.bytes) (get_all fields (codes "if-none-match"))
