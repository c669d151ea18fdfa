-- A text of somebody else, as a terminal can show it.
use Rattle.std.specs.Prelude.{ℕ, ◌+◌, ◌/◌, ◌%◌, ◌==◌, Bool, ◌&&◌, ◌||◌, not, List, [], ◌∷◌, ◌++◌, length, take, nat_le, nat_lt, if◌then◌else◌, codes}
use Rattle.std.specs.List.{flat_map}

abbrev pub is_plain : ℕ → Bool
is_plain byte = (nat_le 32 byte && nat_le byte 126) && not (byte == 34 || byte == 92)

abbrev pub hexadecimal : ℕ → ℕ
hexadecimal n = if nat_lt n 10 then 48 + n else 87 + n

abbrev pub escaped_byte : ℕ → List ℕ
escaped_byte byte =
    if is_plain byte then byte ∷ []
    else codes "\\x" ++ (hexadecimal (byte / 16) ∷ hexadecimal (byte % 16) ∷ [])

-- its first 40 bytes, without any that a terminal would take for something else
abbrev pub quoted : List ℕ → List ℕ
quoted text =
    34 ∷ (flat_map escaped_byte (take 40 text) ++ (if nat_lt 40 (length text) then codes "\"..." else codes "\""))
