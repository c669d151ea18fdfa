-- How a percentage is printed: with no more decimals than it needs.
use Rattle.std.proofs.Common.{◌≡◌, ◌≢◌, ℕ, ◌/◌, ◌%◌, true, false, eqb, List, [], ◌∷◌, ◌++◌, refl, ap, ◌∙◌, arith}
use Rattle.std.specs.Prelude.{codes, decimal}
use Rattle.std.proofs.lemmas.Bool.{eq-eqb, ne_eqb}
use Rattle.std.proofs.lemmas.Fmt.{decimal_digit}
use Rattle.actions.specs.Bytes.{without_end, point, zero_digit}
use Rattle.actions.specs.Grammar.{percent_text}
use Rattle.actions.specs.Canonical.{digit, four_digits, percent_of}

-- the four decimals of parts per million
abbrev pub first : ℕ → ℕ
first n = n % 10000 / 1000

abbrev pub second : ℕ → ℕ
second n = n % 10000 / 100 % 10

abbrev pub third : ℕ → ℕ
third n = n % 10000 / 10 % 10

abbrev pub fourth : ℕ → ℕ
fourth n = n % 10000 % 10

-- those that are left without zeros at their end
abbrev kept : ℕ → List ℕ
kept n = without_end zero_digit (four_digits (n % 10000))

is_zero : (d : ℕ) → d ≡ 0 → eqb (digit d) zero_digit ≡ true
is_zero d none = eq-eqb (digit d) zero_digit (omega (arith, none))

not_zero : (d : ℕ) → d ≢ 0 → eqb (digit d) zero_digit ≡ false
not_zero d some = ne_eqb (digit d) zero_digit (λ e. some (omega (arith, e)))

-- the printed decimals are those that are left
printed_from : (n : ℕ) (left printed : List ℕ) → n % 10000 ≢ 0 → kept n ≡ left → left ≡ printed
    → percent_text (percent_of n) ≡ decimal (n / 10000) ++ (codes "." ++ printed)
printed_from n left printed some e f =
    rw (ne_eqb (n % 10000) 0 some) (ap (λ (x : List ℕ). decimal (n / 10000) ++ point ∷ x) (e ∙ f))

pub four_printed : (n : ℕ) → fourth n ≢ 0
    → percent_text (percent_of n) ≡ decimal (n / 10000) ++
    (codes "." ++ (decimal (first n) ++ (decimal (second n) ++ (decimal (third n) ++ decimal (fourth n)))))
four_printed n some =
    printed_from n (digit (first n) ∷ digit (second n) ∷ digit (third n) ∷ digit (fourth n) ∷ []) _
    (λ none. some (omega (arith, none)))
    (rw (not_zero (fourth n) some) refl)
    (rw (
      decimal_digit (first n) (omega arith),
      decimal_digit (second n) (omega arith),
      decimal_digit (third n) (omega arith),
      decimal_digit (fourth n) (omega arith),
    ) refl)

pub three_printed : (n : ℕ) → fourth n ≡ 0 → third n ≢ 0
    → percent_text (percent_of n) ≡ decimal (n / 10000) ++
    (codes "." ++ (decimal (first n) ++ (decimal (second n) ++ decimal (third n))))
three_printed n no_fourth some =
    printed_from n (digit (first n) ∷ digit (second n) ∷ digit (third n) ∷ []) _
    (λ none. some (omega (arith, none)))
    (rw (is_zero (fourth n) no_fourth, not_zero (third n) some) refl)
    (rw (
      decimal_digit (first n) (omega arith),
      decimal_digit (second n) (omega arith),
      decimal_digit (third n) (omega arith),
    ) refl)

pub two_printed : (n : ℕ) → fourth n ≡ 0 → third n ≡ 0 → second n ≢ 0
    → percent_text (percent_of n) ≡ decimal (n / 10000) ++ (codes "." ++ (decimal (first n) ++ decimal (second n)))
two_printed n no_fourth no_third some =
    printed_from n (digit (first n) ∷ digit (second n) ∷ []) _
    (λ none. some (omega (arith, none)))
    (rw (is_zero (fourth n) no_fourth, is_zero (third n) no_third, not_zero (second n) some) refl)
    (rw (decimal_digit (first n) (omega arith), decimal_digit (second n) (omega arith)) refl)

pub one_printed : (n : ℕ) → fourth n ≡ 0 → third n ≡ 0 → second n ≡ 0 → first n ≢ 0
    → percent_text (percent_of n) ≡ decimal (n / 10000) ++ (codes "." ++ decimal (first n))
one_printed n no_fourth no_third no_second some =
    printed_from n (digit (first n) ∷ []) _
    (λ none. some (omega (arith, none)))
    (rw (
      is_zero (fourth n) no_fourth,
      is_zero (third n) no_third,
      is_zero (second n) no_second,
      not_zero (first n) some,
    ) refl)
    (rw (decimal_digit (first n) (omega arith)) refl)
