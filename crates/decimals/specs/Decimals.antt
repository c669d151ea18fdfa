-- Numbers in decimal digits, as bytes of a text.
use Rattle.std.specs.Prelude.{ℕ, Bool, ◌&&◌, List, length, if◌then◌else◌, nat_lt, nat_le, Option, Some, None}
use Rattle.std.specs.List.{list_all}
use Rattle.std.specs.Char.{is_ascii_digit}
use Rattle.std.specs.Str.Parse.{digits_value}

-- one or more digits, with a value up to this
abbrev pub is_number_up_to : ℕ → List ℕ → Bool
is_number_up_to most text =
    nat_lt 0 (length text) && list_all is_ascii_digit text && nat_le (digits_value 10 text) most

-- the number that they are
abbrev pub number_of : ℕ → List ℕ → Option ℕ
number_of most text = if is_number_up_to most text then Some (digits_value 10 text) else None

-- a number of 8, of 32 or of 64 bits
abbrev pub byte_of : List ℕ → Option ℕ
byte_of text = number_of 255 text

abbrev pub word_of : List ℕ → Option ℕ
word_of text = number_of 4294967295 text

abbrev pub amount_of : List ℕ → Option ℕ
amount_of text = number_of 18446744073709551615 text
