-- What a request says that has the key of a service.
use Rattle.std.specs.Prelude.{◌&&◌, ℕ, Bool, false, List, [], ◌∷◌, length, take, drop, codes, bytes_eq, Option, option_map}
use Rattle.std.specs.Arc.{arc_value}
use Rattle.hex.specs.Hex.{encode_lower}
use Rattle.http_header.specs.FieldValue.{FieldValue}
use Rattle.http_header.specs.HeaderMap.{Entries, get_all}
use Rattle.http_routes.specs.Asked.{AskedValue, known, page}
use Rattle.http_exchange.specs.declared.access.Access.{Access}
use Rattle.http_exchange.specs.declared.key.Key.{Key}
use Rattle.http_exchange.specs.declared.access.KeyNeed.{KeyNeed}
use Rattle.http_exchange.specs.declared.access.KeyNeed.TheVariants.{Needed, Waived}
use Rattle.http_exchange.specs.Letters.{is_alike}

-- the key of a service, if it has one
abbrev pub key_in : Access → Option (List ℕ)
key_in access = option_map (λ key. (arc_value {X = Key} key).bytes.items) access.key

-- whether a request needs it: the page has nothing of the node, and asks for the key
abbrev pub key_need : AskedValue → KeyNeed
key_need (known page row) = Waived
key_need _ = Needed

-- an `Authorization` that has a key: the scheme in letters of either case (RFC 9110, 11.1), a space, and the key in
-- hex digits
abbrev pub are_credentials : List ℕ → List ℕ → Bool
are_credentials key value =
    is_alike (take 7 value) (codes "Bearer ") && bytes_eq (drop 7 value) (encode_lower key)

-- a field is there once, with a value that passes
abbrev pub is_once : (List ℕ → Bool) → List FieldValue → Bool
is_once test (value ∷ []) = test value.bytes
is_once test _ = false

-- whether a head with these fields has this key, once, and nothing more or less
abbrev pub has_key : List ℕ → Entries FieldValue → Bool
has_key key fields = is_once (are_credentials key) (get_all fields (codes "authorization"))
