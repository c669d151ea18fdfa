-- Messages that are as they were sent.
use Rattle.std.specs.Prelude.{◌&&◌, ℕ, Bool, true, false, not, List, bytes_eq, Option, Some, None}
use Rattle.std.specs.List.{list_all}
use Rattle.http_header.specs.FieldValue.{FieldValue}
use Rattle.http_header.specs.HeaderMap.{Entries, get_all}
use Rattle.http_routes.specs.Digests.{digest_text, is_intact, mac_text}
use Rattle.http_routes.specs.declared.digest.TheConstants.{DIGEST_FIELD, MAC_FIELD}
use Rattle.http_routes.specs.declared.table.Kind.{Kind}
use Rattle.http_routes.specs.declared.table.Kind.TheVariants as kinds
use Rattle.http_exchange.specs.Keys.{is_once}

-- each `Content-Digest` is consistent with a message
abbrev pub has_digests : Entries FieldValue → List ℕ → Bool
has_digests fields message =
    list_all (λ value. is_intact (digest_text message) value.bytes) (get_all fields DIGEST_FIELD.now)

-- where there is a key, `Failreg-Mac` is there, once, and is that of a message under the key
abbrev pub has_mac : Option (List ℕ) → Entries FieldValue → List ℕ → Bool
has_mac None fields message = true
has_mac (Some key) fields message =
    is_once (λ value. bytes_eq value (mac_text key message)) (get_all fields MAC_FIELD.now)

-- whether the body of a request of this kind is a message that isn't as it was sent, by the fields of the request
abbrev pub is_altered : Kind → Option (List ℕ) → Entries FieldValue → List ℕ → Bool
is_altered kinds.Delivery key fields body = not (has_digests fields body && has_mac key fields body)
is_altered _ key fields body = false
