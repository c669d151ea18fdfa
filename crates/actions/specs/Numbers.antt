-- Decimal numbers without signs, and percentages.
use Rattle.std.specs.Prelude.{ℕ, ◌+◌, ◌*◌, ◌^◌, ◌&&◌, not, Bool, List, ◌++◌, length, take, Option, Some, None, option_and_then, nat_lt, nat_le, if◌then◌else◌, codes}
use Rattle.std.specs.Char.{is_ascii_digit}
use Rattle.std.specs.List.{list_all}
use Rattle.actions.specs.Limits.{all_parts, parts_per_cent}
use Rattle.actions.specs.Bytes.{has_byte, text_before, text_after, point}
use Rattle.std.specs.Str.Parse.{digits_value}

infixl 10 ◌>>=◌
abbrev ◌>>=◌ : {A B : Type 0} → Option A → (A → Option B) → Option B
o >>= f = option_and_then f o

abbrev pub are_digits : List ℕ → Bool
are_digits ds = list_all is_ascii_digit ds

-- the number that one or more digits stand for, if it is below 2 ^ 64
unfoldable pub number_at : List ℕ → Option ℕ
number_at ds = if are_digits ds && nat_lt 0 (length ds) && nat_lt (digits_value 10 ds) (2 ^ 64)
    then Some (digits_value 10 ds)
    else None

-- the number that one to so many digits stand for
unfoldable pub short_number_at : ℕ → List ℕ → Option ℕ
short_number_at most ds = if are_digits ds && nat_lt 0 (length ds) && nat_le (length ds) most
    then Some (digits_value 10 ds)
    else None

-- decimals, filled with zeros to four
abbrev pub four_decimals : List ℕ → List ℕ
four_decimals ds = take 4 (ds ++ codes "0000")

-- the ten-thousandths that decimals stand for
unfoldable pub decimals_at : List ℕ → Option ℕ
decimals_at ds = do
  n ← short_number_at 4 ds
  Some (digits_value 10 (four_decimals ds))

-- the parts per million that a percentage without its `%` stands for, at most all of them
unfoldable pub percent_at : List ℕ → Option ℕ
percent_at text = if not (has_byte point text)
    then (do
      n ← short_number_at 3 text
      (if nat_le (n * parts_per_cent) all_parts then Some (n * parts_per_cent) else None))
    else (do
      n ← short_number_at 3 (text_before point text)
      part ← decimals_at (text_after point text)
      (if nat_le (n * parts_per_cent + part) all_parts then Some (n * parts_per_cent + part) else None))
