-- No JSON text with no spaces has a newline.
use Rattle.std.proofs.Common.{◌≡◌, ℕ, zero, suc, ◌+◌, ◌/◌, ◌%◌, ◌<◌, ◌==◌, Bool, true, false, ◌&&◌, not, List, [], ◌∷◌, ◌++◌, refl, arith, decimal, inl, inr}
use Rattle.std.specs.Prelude.{ℤ, pos, negsuc, nat_lt}
use Rattle.std.specs.Fmt.{signed_decimal, digits, digits_onto, digit_glyph}
use Rattle.std.proofs.lemmas.Bool.{and_parts, cases_eq, cases_lt, cond_both, ne_eqb, not-true, or_from, or_parts}
use Rattle.json.specs.Print.{escape, escape_byte, quoted}
use Rattle.json.proofs.Printed.Strings.{escape_byte_plain}
use Rattle.serde_json.specs.Data.{Num, unsigned, negative, float, Data, null, boolean, number, string, array, object, Items, no_items, item, Members, no_members, member}
use Rattle.serde_json.specs.Written.{comma_if, compact_text, items_text, members_text, number_text}
use Rattle.drills.specs.Drills.{newline}
use Rattle.drills.specs.Written.{has_newline}

pub none_in_both : (xs ys : List ℕ) → has_newline xs ≡ false → has_newline ys ≡ false → has_newline (xs ++ ys) ≡ false
none_in_both [] ys h k = k
none_in_both (x ∷ xs) ys h k =
    let parts = or_parts (x == newline) (has_newline xs) h in
    or_from (x == newline) (has_newline (xs ++ ys)) parts.0 (none_in_both xs ys parts.1 k)

in_glyph : (d : ℕ) → (digit_glyph false d == 10) ≡ false
in_glyph d = cond_both (nat_lt d 10) (48 + d) (87 + d) (λ c. (c == 10) ≡ false) (λ _. ne_eqb _ _ (λ e. omega arith))
    (λ _. ne_eqb _ _ (λ e. omega arith))

in_onto : (k n : ℕ) (acc : List ℕ) → has_newline acc ≡ false → has_newline (digits_onto k 10 false n acc) ≡ false
in_onto zero n acc h = h
in_onto (suc k) n acc h =
    let more = or_from (digit_glyph false (n % 10) == 10) (has_newline acc) (in_glyph (n % 10)) h in
    cond_both (n / 10 == 0) _ _ (λ text. has_newline text ≡ false) (λ _. more)
    (λ _. in_onto k (n / 10) (digit_glyph false (n % 10) ∷ acc) more)

in_digits : (n : ℕ) → has_newline (decimal n) ≡ false
unfolding digits
in_digits n = in_onto 64 n [] refl

in_signed : (z : ℤ) → has_newline (signed_decimal z) ≡ false
in_signed (pos n) = in_digits n
in_signed (negsuc n) = in_digits (suc n)

abbrev none_below : ℕ → Bool
none_below zero = true
none_below (suc n) = not (has_newline (escape_byte n)) && none_below n

at_below : (n : ℕ) → none_below n ≡ true → (x : ℕ) → x < n → has_newline (escape_byte x) ≡ false
at_below zero h x below = absurd (omega arith)
at_below (suc n) h x below =
    let parts = and_parts (not (has_newline (escape_byte n))) (none_below n) h in
    elim (cases_eq x n) [
      | inl same ↦ rw same (not-true (has_newline (escape_byte n)) parts.0)
      | inr other ↦ at_below n parts.1 x (omega arith)
    ]

all_below : none_below 93 ≡ true
unfolding escape_byte
all_below = refl

in_escaped_byte : (x : ℕ) → has_newline (escape_byte x) ≡ false
in_escaped_byte x = elim (cases_lt x 93) [
  | inl small ↦ at_below 93 all_below x small
  | inr great ↦
      let plain = escape_byte_plain x (λ e. omega arith) (λ e. omega arith) (omega arith) in
      rw plain (or_from (x == newline) false (ne_eqb x newline (λ e. omega arith)) refl)
]

in_escaped : (xs : List ℕ) → has_newline (escape xs) ≡ false
in_escaped [] = refl
in_escaped (x ∷ xs) = none_in_both (escape_byte x) (escape xs) (in_escaped_byte x) (in_escaped xs)

in_quoted : (xs : List ℕ) → has_newline (quoted xs) ≡ false
in_quoted xs = none_in_both (escape xs) (34 ∷ []) (in_escaped xs) refl

in_comma : (later : Bool) → has_newline (comma_if later) ≡ false
in_comma true = refl
in_comma false = refl

in_number : (n : Num) → has_newline (number_text n) ≡ false
in_number (unsigned n) = in_digits n
in_number (negative z) = in_signed z
in_number (float x) = refl

mutual
  pub in_compact : (d : Data) → has_newline (compact_text d) ≡ false
  in_compact null = refl
  in_compact (boolean true) = refl
  in_compact (boolean false) = refl
  in_compact (number n) = in_number n
  in_compact (string s) = in_quoted s
  in_compact (array ds) = in_items false ds
  in_compact (object ms) = in_members false ms

  in_items : (later : Bool) (ds : Items) → has_newline (items_text later ds) ≡ false
  in_items later no_items = refl
  in_items later (item d ds) =
      none_in_both (comma_if later) _ (in_comma later) (none_in_both (compact_text d) (items_text true ds)
      (in_compact d) (in_items true ds))

  in_members : (later : Bool) (ms : Members) → has_newline (members_text later ms) ≡ false
  in_members later no_members = refl
  in_members later (member k d ms) =
      none_in_both (comma_if later) _ (in_comma later)
      (none_in_both (quoted k) _ (in_quoted k) (none_in_both (compact_text d) (members_text true ms) (in_compact d)
      (in_members true ms)))
