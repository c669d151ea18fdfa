-- Whom a request names as its server.
use Rattle.std.specs.Prelude.{◌≡◌, ◌==◌, ◌&&◌, ◌||◌, ℕ, Bool, true, false, is_some, List, [], ◌∷◌, take, drop, codes, bytes_eq, if◌then◌else◌, Option, Some, None}
use Rattle.std.specs.List.{list_all, position}
use Rattle.std.specs.Net.Reader.{read_ipv4, read_ipv6, whole_value}
use Rattle.std.specs.Str.{is_utf8}
use Rattle.decimals.specs.Decimals.{number_of}
use Rattle.http_header.specs.FieldValue.{FieldValue}
use Rattle.http_header.specs.HeaderMap.{Entries, get_all}
use Rattle.http_uri.specs.declared.uri.Uri.{Uri}
use Rattle.http_uri.specs.Uri.{uri_authority, uri_scheme}
use Rattle.http_exchange.specs.Letters.{is_alike}

-- a text of digits, with the value of a port
abbrev pub is_port : List ℕ → Bool
is_port digits = is_utf8 digits && is_some (number_of 65535 digits)

-- nothing, or a colon and a port
abbrev pub may_end_host : List ℕ → Bool
may_end_host [] = true
may_end_host (byte ∷ port) = byte == 58 && is_port port

-- a text of an address in 127.0.0.0/8
abbrev pub begins_with_127 : Option (List ℕ) → Bool
begins_with_127 None = false
begins_with_127 (Some octets) = bytes_eq (take 1 octets) (127 ∷ [])

abbrev pub is_loopback_v4 : List ℕ → Bool
is_loopback_v4 text = begins_with_127 (whole_value (read_ipv4 text))

-- a text of the address ::1
abbrev pub is_one : Option (List ℕ) → Bool
is_one None = false
is_one (Some segments) = bytes_eq segments (0 ∷ 0 ∷ 0 ∷ 0 ∷ 0 ∷ 0 ∷ 0 ∷ 1 ∷ [])

abbrev pub is_loopback_v6 : List ℕ → Bool
is_loopback_v6 text = is_one (whole_value (read_ipv6 text))

-- the bytes before the first of this one, and those from it on
abbrev pub cut_at : Option ℕ → List ℕ → List ℕ × List ℕ
cut_at None bytes = (bytes, [])
cut_at (Some n) bytes = (take n bytes, drop n bytes)

abbrev pub cut_before : ℕ → List ℕ → List ℕ × List ℕ
cut_before byte bytes = cut_at (position (λ b. b == byte) bytes) bytes

-- a name or an IPv4 address of this machine, with or without a port
abbrev pub is_name_here : List ℕ → Bool
is_name_here host =
    let parts = cut_before 58 host in
    (is_alike parts.0 (codes "localhost") || is_loopback_v4 parts.0) && may_end_host parts.1

-- a bracket, with or without a port
abbrev pub may_close_host : List ℕ → Bool
may_close_host [] = false
may_close_host (bracket ∷ end) = may_end_host end

-- what follows the first bracket of an IPv6 address of this machine, with or without a port
abbrev pub is_closed_here : List ℕ → Bool
is_closed_here rest = let parts = cut_before 93 rest in is_loopback_v6 parts.0 && may_close_host parts.1

-- a name or an address of this machine, with or without a port (RFC 3986, 3.2.2)
abbrev pub is_this_machine : List ℕ → Bool
is_this_machine [] = false
is_this_machine (byte ∷ rest) = if byte == 91 then is_closed_here rest else is_name_here (byte ∷ rest)

-- the authority of a target, if that is a whole URI
abbrev pub authority_of : Uri → Option (List ℕ)
authority_of target = if is_some (uri_scheme target) then uri_authority target else None

-- A request names this machine alone: by the authority of its target, if that has one, and else by its `Host` (RFC 9112,
-- 3.2.2).
abbrev pub names_this_machine : Option (List ℕ) → Entries FieldValue → Bool
names_this_machine None fields =
    list_all (λ value. is_this_machine value.bytes) (get_all fields (codes "host"))
names_this_machine (Some authority) fields = is_this_machine authority

abbrev pub only_one : List FieldValue → Option (List ℕ)
only_one (value ∷ []) = Some value.bytes
only_one _ = None

-- whom a request names, if it is one
abbrev pub host_of : Option (List ℕ) → Entries FieldValue → Option (List ℕ)
host_of None fields = only_one (get_all fields (codes "host"))
host_of (Some authority) fields = Some authority
