-- Texts whose letters may be small or capital.
use Rattle.std.specs.Prelude.{ℕ, Bool, List, map, bytes_eq}
use Rattle.std.specs.Char.{to_ascii_lowercase}

-- the same bytes, but for small and capital letters
abbrev pub is_alike : List ℕ → List ℕ → Bool
is_alike a b = bytes_eq (map to_ascii_lowercase a) (map to_ascii_lowercase b)
