-- Names of points.
use Rattle.std.specs.Prelude.{ℕ, zero, suc, ◌+◌, ◌*◌, ◌^◌, Bool, ◌&&◌, ◌||◌, List, [], ◌∷◌, length, nat_lt, nat_le, ◌==◌}
use Rattle.std.specs.Char.{is_ascii_alphanumeric}
use Rattle.std.specs.List.{list_all}
use Rattle.actions.specs.Limits.{max_name}
use Rattle.actions.specs.Bytes.{dash, point, colon, underscore}

-- a letter, a digit, or one of `_`, `-`, `.` and `:`
abbrev pub is_name_byte : ℕ → Bool
is_name_byte b = is_ascii_alphanumeric b || (b == underscore) || (b == dash) || (b == point) || (b == colon)

-- 1 to 128 of these
abbrev pub is_name : List ℕ → Bool
is_name bs = nat_lt 0 (length bs) && nat_le (length bs) max_name && list_all is_name_byte bs

-- so many first bytes as one number, the first of them the highest, with 0 behind the last one
abbrev pub first_bytes : ℕ → List ℕ → ℕ
first_bytes zero bs = 0
first_bytes (suc k) [] = 0
first_bytes (suc k) (b ∷ bs) = 256 ^ k * b + first_bytes k bs
