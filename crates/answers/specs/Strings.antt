-- Bytes in a string of JSON.
use Rattle.std.specs.Prelude.{ℕ, ◌+◌, ◌/◌, ◌%◌, ◌==◌, Bool, ◌&&◌, ◌||◌, not, List, [], ◌∷◌, ◌++◌, nat_le, nat_lt, if◌then◌else◌, codes}
use Rattle.std.specs.List.{flat_map}

-- a byte stands for itself; one beyond 127 only in what is UTF-8 throughout
abbrev pub is_plain : Bool → ℕ → Bool
is_plain known byte =
    (nat_le 32 byte && (nat_lt byte 127 || (known && nat_le 128 byte))) && not (byte == 34 || byte == 92)

abbrev pub hexadecimal : ℕ → ℕ
hexadecimal n = if nat_lt n 10 then 48 + n else 87 + n

abbrev pub string_byte : Bool → ℕ → List ℕ
string_byte known byte =
    if is_plain known byte then byte ∷ []
    else codes "\\u00" ++ (hexadecimal (byte / 16) ∷ hexadecimal (byte % 16) ∷ [])

-- what stands between the quotes
abbrev pub string_of : Bool → List ℕ → List ℕ
string_of known bytes = flat_map (string_byte known) bytes
