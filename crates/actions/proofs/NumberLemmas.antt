-- What `parse` gives for digits, and the value of digits.
use Rattle.std.proofs.Common.{◌≡◌, ℕ, ◌-◌, ◌*◌, ◌^◌, ◌<◌, ◌≤◌, Bool, true, false, cond, ltb, leb, ◌&&◌, List, [], ◌∷◌, length, Option, Some, None, Result, Ok, Err, refl, sym, ap, ◌∙◌, arith, rules, inl, inr}
use Rattle.std.specs.Prelude.{IfSome}
use Rattle.std.specs.Result.{OkIff, result_ok}
use Rattle.std.specs.Str.Parse.{digits_value, ParsesUnsigned}
use Rattle.std.proofs.lemmas.Bool.{cases_lt, lt-ltb, le-ltb, le-leb, lt-leb, ltb-true, leb-true, and_parts}
use Rattle.std.proofs.lemmas.Str.Parse.{IsNumeralModel, numerals_by_value, parse_digits, digits_value_short}
use Rattle.actions.specs.Numbers.{are_digits, number_at, short_number_at, decimals_at, four_decimals}

pub own : IsNumeralModel (λ ds. are_digits ds ≡ true) (digits_value 10)
own = numerals_by_value _ (search rules)

pub digits_below : (k : ℕ) (ds : List ℕ) → are_digits ds ≡ true → length ds ≤ k → digits_value 10 ds < 10 ^ k
digits_below k ds d len = digits_value_short own ds k d len

ok_number : {E : Type 0} (limit : ℕ) (bs : List ℕ) (r : Result ℕ E)
    → OkIff r ((0 < length bs) × (digits_value 10 bs < limit)) (digits_value 10 bs)
    → result_ok r ≡ cond (ltb 0 (length bs) && ltb (digits_value 10 bs) limit) (Some (digits_value 10 bs)) None
ok_number limit bs (Ok x) h = rw (lt-ltb 0 (length bs) h.0.0, lt-ltb (digits_value 10 bs) limit h.0.1) (ap Some h.1)
ok_number limit bs (Err e) h =
    elim (cases_lt 0 (length bs)) [
      | inl some ↦ elim (cases_lt (digits_value 10 bs) limit) [
        | inl below ↦ absurd (h (some, below))
        | inr le ↦ rw (lt-ltb 0 (length bs) some, le-ltb (digits_value 10 bs) limit le) refl
      ]
      | inr none ↦ rw (le-ltb 0 (length bs) none) refl
    ]

pub parsed_number : {E : Type 0} (bs : List ℕ) (r : Result ℕ E) → are_digits bs ≡ true → ParsesUnsigned 64 10 bs r
    → result_ok r ≡ number_at bs
unfolding number_at
parsed_number bs r d h = rw d (ok_number (2 ^ 64) bs r (parse_digits own 64 bs r h d))

pub parsed_short : {E : Type 0} (most : ℕ) (bs : List ℕ) (r : Result ℕ E) → most < 5 → length bs ≤ most
    → are_digits bs ≡ true → ParsesUnsigned 32 10 bs r → result_ok r ≡ short_number_at most bs
unfolding short_number_at
parsed_short most bs r small len d h =
    let below : digits_value 10 bs < 2 ^ 32 = omega (arith, digits_below 4 bs d (omega arith)) in
    let given = ok_number (2 ^ 32) bs r (parse_digits own 32 bs r h d) in
    let fits = lt-ltb (digits_value 10 bs) (2 ^ 32) below in
    given ∙ rw (d, fits, le-leb (length bs) most len) refl

pub no_number : (bs : List ℕ) → are_digits bs ≡ false → None ≡ number_at bs
unfolding number_at
no_number bs d = rw d refl

pub no_short : (most : ℕ) (bs : List ℕ) → are_digits bs ≡ false → None ≡ short_number_at most bs
unfolding short_number_at
no_short most bs d = rw d refl

never : (b : Bool) (o : Option ℕ) → cond (b && false) o None ≡ None
never true o = refl
never false o = refl

pub guard_some : {A : Type 0} (b : Bool) (x y : A) → cond b (Some x) None ≡ Some y → (b ≡ true) × (x ≡ y)
guard_some true x y e = (refl, cc)
guard_some false x y e = absurd cc

pub too_long : (most : ℕ) (bs : List ℕ) → most < length bs → None ≡ short_number_at most bs
unfolding short_number_at
too_long most bs lt =
    rw (lt-leb (length bs) most lt) (sym (never (are_digits bs && ltb 0 (length bs)) (Some (digits_value 10 bs))))

-- a number of so many digits
pub short_parts : (most : ℕ) (bs : List ℕ) (n : ℕ) → short_number_at most bs ≡ Some n
    → (are_digits bs ≡ true) × (0 < length bs) × (length bs ≤ most) × (digits_value 10 bs ≡ n)
unfolding short_number_at
short_parts most bs n e =
    let a = guard_some (are_digits bs && ltb 0 (length bs) && leb (length bs) most) (digits_value 10 bs) n e in
    let b = and_parts (are_digits bs && ltb 0 (length bs)) (leb (length bs) most) a.0 in
    let c = and_parts (are_digits bs) (ltb 0 (length bs)) b.0 in
    (c.0, ltb-true 0 (length bs) c.1, leb-true (length bs) most b.1, a.1)

pub short_fits : (most : ℕ) (bs : List ℕ) (o : Option ℕ) → o ≡ short_number_at most bs
    → IfSome o (λ n. (n < 10 ^ most) × (length bs ≤ most))
short_fits most bs None e = tt
short_fits most bs (Some n) e =
    let p = short_parts most bs n (sym e) in
    (rw (← p.3) (digits_below most bs p.0 p.2), p.2)

-- decimals filled with zeros
pub filled_value : (ds : List ℕ) → 0 < length ds → length ds ≤ 4
    → digits_value 10 (four_decimals ds) ≡ digits_value 10 ds * 10 ^ (4 - length ds)
filled_value [] some few = absurd (omega arith)
filled_value (a ∷ []) some few = omega arith
filled_value (a ∷ b ∷ []) some few = omega arith
filled_value (a ∷ b ∷ c ∷ []) some few = omega arith
filled_value (a ∷ b ∷ c ∷ d ∷ []) some few = omega arith
filled_value (a ∷ b ∷ c ∷ d ∷ e ∷ ds) some few = absurd (omega arith)

-- the ten-thousandths are below 10000
pub filled_below : (ds : List ℕ) → are_digits ds ≡ true → 0 < length ds → length ds ≤ 4
    → digits_value 10 (four_decimals ds) < 10000
filled_below [] d some few = absurd (omega arith)
filled_below (a ∷ []) d some few = omega (arith, digits_below 1 (a ∷ []) d (omega arith))
filled_below (a ∷ b ∷ []) d some few = omega (arith, digits_below 2 (a ∷ b ∷ []) d (omega arith))
filled_below (a ∷ b ∷ c ∷ []) d some few = omega (arith, digits_below 3 (a ∷ b ∷ c ∷ []) d (omega arith))
filled_below (a ∷ b ∷ c ∷ e ∷ []) d some few = omega (arith, digits_below 4 (a ∷ b ∷ c ∷ e ∷ []) d (omega arith))
filled_below (a ∷ b ∷ c ∷ e ∷ f ∷ ds) d some few = absurd (omega arith)

pub decimals_is : (ds : List ℕ) (n : ℕ) → short_number_at 4 ds ≡ Some n
    → (decimals_at ds ≡ Some (n * 10 ^ (4 - length ds))) × (n * 10 ^ (4 - length ds) < 10000)
unfolding decimals_at
decimals_is ds n e =
    let p = short_parts 4 ds n e in
    let v = filled_value ds p.1 p.2 in
    let same : digits_value 10 (four_decimals ds) ≡ n * 10 ^ (4 - length ds) = rw (← p.3) v in
    (rw e (ap Some same), rw (← same) (filled_below ds p.0 p.1 p.2))
