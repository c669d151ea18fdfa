-- Which heads are answered before anything is asked, and how.
use Rattle.std.specs.Prelude.{◌&&◌, ◌||◌, ◌++◌, ℕ, Bool, true, false, not, is_some, List, codes, decimal, bytes_eq, if◌then◌else◌, Option, Some, None}
use Rattle.std.specs.List.{list_all}
use Rattle.std.specs.Option.{option_or}
use Rattle.http_header.specs.FieldValue.{FieldValue}
use Rattle.http_header.specs.HeaderMap.{Entries, get_all}
use Rattle.http_routes.specs.Replies.{ReplyValue, text_reply}
use Rattle.http_exchange.specs.declared.access.KeyNeed.{KeyNeed}
use Rattle.http_exchange.specs.declared.access.KeyNeed.TheVariants.{Needed, Waived}
use Rattle.http_exchange.specs.declared.heads.Refusal.{Refusal}
use Rattle.http_exchange.specs.declared.heads.Refusal.TheVariants.{NoKey, ForeignHost, ForeignOrigin, OtherCoding}
use Rattle.http_exchange.specs.declared.labels.Labels.{Labels}
use Rattle.http_exchange.specs.Hosts.{host_of, names_this_machine}
use Rattle.http_exchange.specs.Keys.{has_key}
use Rattle.http_exchange.specs.Labels.{key_labels, plain_labels}
use Rattle.http_exchange.specs.Letters.{is_alike}

-- the address at which a node is served at this port
abbrev pub is_served_address : ℕ → List ℕ → Bool
is_served_address port origin = bytes_eq origin (codes "http://127.0.0.1:" ++ decimal port)

-- a page of this host, by http, or, at a service with a key, by https, where something that encrypts stands in front
abbrev pub is_of_host : Bool → Option (List ℕ) → List ℕ → Bool
is_of_host is_keyed None origin = false
is_of_host is_keyed (Some host) origin =
    bytes_eq origin (codes "http://" ++ host) || (is_keyed && bytes_eq origin (codes "https://" ++ host))

-- A page of the service itself: at its address, or at the host that the request names. Where there is no key, that is
-- this machine: whoever gives it a name of his own could have a page of that name.
abbrev pub is_own_page : ℕ → Bool → Option (List ℕ) → List ℕ → Bool
is_own_page port is_keyed host origin = is_served_address port origin || is_of_host is_keyed host origin

abbrev pub is_chunked : List ℕ → Bool
is_chunked coding = is_alike coding (codes "chunked")

-- each field of this name has a value that passes
abbrev pub all_pass : (List ℕ → Bool) → List ℕ → Entries FieldValue → Bool
all_pass test name fields = list_all (λ value. test value.bytes) (get_all fields name)

-- who isn't let in: without the key of a service that has one, unless the request needs none, and else who names
-- another machine
abbrev pub stranger : Option (List ℕ) → KeyNeed → Option (List ℕ) → Entries FieldValue → Option Refusal
stranger None need authority fields = if names_this_machine authority fields then None else Some ForeignHost
stranger (Some key) Waived authority fields = None
stranger (Some key) Needed authority fields = if has_key key fields then None else Some NoKey

-- what is refused else: another page, or another coding
abbrev pub refusal_behind : ℕ → Bool → Option (List ℕ) → Entries FieldValue → Option Refusal
refusal_behind port is_keyed host fields =
    if not (all_pass (is_own_page port is_keyed host) (codes "origin") fields) then Some ForeignOrigin
    else (if not (all_pass is_chunked (codes "transfer-encoding") fields) then Some OtherCoding else None)

-- why a head with these fields, whose target has this authority, if it has one, is refused by a service with this key, if
-- it has one, at this port
abbrev pub refusal_of : Option (List ℕ) → KeyNeed → ℕ → Option (List ℕ) → Entries FieldValue → Option Refusal
refusal_of key need port authority fields =
    option_or (stranger key need authority fields)
    (refusal_behind port (is_some key) (host_of authority fields) fields)

-- what a head that is refused is answered
abbrev pub refusal_reply : Refusal → ReplyValue
refusal_reply NoKey =
    text_reply 401 (codes "missing or wrong key: send Authorization: Bearer and the key in hex")
refusal_reply ForeignHost =
    text_reply 403 (codes "the Host header names another machine: use localhost, 127.0.0.1 or [::1]")
refusal_reply ForeignOrigin =
    text_reply 403 (codes "the Origin header names another site: send no Origin header")
refusal_reply OtherCoding = text_reply 501 (codes "unsupported Transfer-Encoding: send Content-Length or only chunked")

-- a text, and where a key is missing, what is to be sent
abbrev pub refusal_labels : Refusal → Labels
refusal_labels NoKey = key_labels
refusal_labels _ = plain_labels
