-- Texts of somebody else, as an SVG holds them.
use Rattle.std.specs.Prelude.{ℕ, Bool, ◌&&◌, ◌==◌, List, [], ◌∷◌, nat_le, if◌then◌else◌, codes}
use Rattle.std.specs.List.{flat_map}

-- a byte that stands for itself, as a character that can be seen
abbrev pub is_seen : ℕ → Bool
is_seen byte = nat_le 32 byte && nat_le byte 126

-- what has a meaning there is spelled out, and what can't be seen is a question mark
abbrev pub escaped_byte : ℕ → List ℕ
escaped_byte byte =
    if byte == 38 then codes "&amp;"
    else (if byte == 60 then codes "&lt;"
    else (if byte == 62 then codes "&gt;"
    else (if byte == 34 then codes "&quot;"
    else (if byte == 39 then codes "&apos;"
    else (if is_seen byte then byte ∷ [] else codes "?")))))

abbrev pub escaped : List ℕ → List ℕ
escaped text = flat_map escaped_byte text
