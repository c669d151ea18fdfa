-- What it means that `parse` refuses digits.
use Rattle.std.proofs.Common.{◌≡◌, ℕ, ◌^◌, ◌<◌, ◌≤◌, true, List, length, None, Err, arith, rules}
use Rattle.std.specs.List.{list_all}
use Rattle.std.specs.Char.{is_ascii_digit}
use Rattle.std.specs.Str.Parse.{ParsesUnsigned, digits_value}
use Rattle.std.proofs.lemmas.Str.Parse.{IsNumeralModel, numerals_by_value, parse_digits}
use Rattle.std.proofs.lemmas.Bool.Decides.{nat_tests}
use Rattle.decimals.specs.Decimals.{number_of}

own : IsNumeralModel (λ text. list_all is_ascii_digit text ≡ true) (digits_value 10)
own = numerals_by_value _ (search rules)

-- it is above every number of the type
pub too_large : {E : Type 0} (text : List ℕ) (e : E) → ParsesUnsigned 64 10 text (Err e) →
    list_all is_ascii_digit text ≡ true → 0 < length text → 2 ^ 64 ≤ digits_value 10 text
too_large text e h digits some =
    let no = parse_digits own 64 text (Err e) h digits in
    grind (arith, no)

pub number_of-too_large : (most : ℕ) (text : List ℕ) → most < 2 ^ 64 → 2 ^ 64 ≤ digits_value 10 text →
    None ≡ number_of most text
number_of-too_large most text small large = grind (arith, nat_tests)
