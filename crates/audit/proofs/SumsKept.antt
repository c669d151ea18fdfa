-- What is kept at a place: its stamp's clock and node, and its term.
use Rattle.std.proofs.Common.{◌≡◌, ℕ, ◌==◌, ◌&&◌, ◌+◌, cond, Bool, true, false, Option, Some, refl, ◌∙◌, ap, arith}
use Rattle.std.proofs.lemmas.Bool.{eqb-true, and_parts}
use Rattle.std.proofs.lemmas.Bool.Decides.{nat_tests}
use Rattle.std.specs.Option.{unwrap_or}
use Rattle.std.specs.Cmp.{both_tied}
use Rattle.std.specs.Ordering.{nat_cmp, ordering_then, is_eq}

pub same_number : (n m : ℕ) → (n == m) ≡ is_eq (nat_cmp n m)
same_number n m = grind (arith, nat_tests)

and_both : (p q r : Bool) → (p && (q && r)) ≡ ((p && q) && r)
and_both true q r = refl
and_both false q r = refl

-- two places compare equal where all three numbers are
pub same_places : (a b c x y z : ℕ) → (a == x && (b == y && (c == z))) ≡ is_eq
    (ordering_then (ordering_then (nat_cmp a x) (nat_cmp b y)) (nat_cmp c z))
same_places a b c x y z =
    and_both (a == x) (b == y) (c == z)
    ∙ both_tied (a == x && (b == y)) (c == z) (ordering_then (nat_cmp a x) (nat_cmp b y)) (nat_cmp c z)
    (both_tied (a == x) (b == y) (nat_cmp a x) (nat_cmp b y) (same_number a x) (same_number b y)) (same_number c z)

-- a sum that grew at one place
pub grown : (f g : ℕ → ℕ → ℕ → Option ℕ) (a b c amount x y z : ℕ) →
    g x y z ≡ cond (a == x && (b == y && (c == z))) (Some (unwrap_or (f a b c) 0 + amount)) (f x y z) →
    unwrap_or (g x y z) 0 ≡ unwrap_or (f x y z) 0 + cond (a == x && (b == y && (c == z))) amount 0
grown f g a b c amount x y z put = at (a == x && (b == y && (c == z))) refl
  where
    at : (t : Bool) → (a == x && (b == y && (c == z))) ≡ t →
        unwrap_or (g x y z) 0 ≡ unwrap_or (f x y z) 0 + cond t amount 0
    at true h =
        let first = and_parts (a == x) _ h in
        let rest = and_parts (b == y) _ first.1 in
        let e : a ≡ x = eqb-true a x first.0 in
        let f1 : b ≡ y = eqb-true b y rest.0 in
        let f2 : c ≡ z = eqb-true c z rest.1 in
        let here : f a b c ≡ f x y z = ap (λ n. f n b c) e ∙ ap (λ n. f x n c) f1 ∙ ap (λ n. f x y n) f2 in
        let now : g x y z ≡ Some (unwrap_or (f a b c) 0 + amount) = put ∙
        ap (λ t. cond t (Some (unwrap_or (f a b c) 0 + amount)) (f x y z)) h in
        ap (λ o. unwrap_or o 0) now ∙ ap (λ o. unwrap_or o 0 + amount) here
    at false h =
        let now : g x y z ≡ f x y z = put ∙ ap (λ t. cond t (Some (unwrap_or (f a b c) 0 + amount)) (f x y z)) h in
        let same = ap (λ o. unwrap_or o 0) now in
        omega (arith, same)
