-- Numbers of points, where a name is put behind.
use Rattle.std.proofs.Common.{◌≡◌, ◌⊎◌, inl, inr, ⊎_elim, ℕ, zero, suc, Bool, true, false, List, [], ◌∷◌, ◌++◌, length, cond, refl, sym, ◌∙◌, ap, Option, Some, None, arith}
use Rattle.std.specs.Prelude.{◌↔◌, bytes_eq, slice_get}
use Rattle.std.proofs.lemmas.Map.Text.{is_eq-slice_cmp}
use Rattle.std.proofs.lemmas.Slice.Eq.{bytes_eq-Decides}
use Rattle.std.proofs.lemmas.Option.{none-some, same_Some}
use Rattle.std.specs.Ordering.{is_eq, nat_cmp}
use Rattle.std.specs.Cmp.Lexicographic.{slice_cmp}

pub same_name : (name other : List ℕ) → bytes_eq name other ≡ is_eq (slice_cmp nat_cmp name other)
same_name name other = sym (is_eq-slice_cmp name other)

got_before : (xs : List (List ℕ)) (x y : List ℕ) (i : ℕ) → slice_get xs i ≡ Some y → slice_get (xs ++ x ∷ []) i ≡ Some y
got_before [] x y i there = absurd (none-some y there)
got_before (z ∷ xs) x y zero there = there
got_before (z ∷ xs) x y (suc i) there = got_before xs x y i there

pub got_last : (xs : List (List ℕ)) (x : List ℕ) → slice_get (xs ++ x ∷ []) (length xs) ≡ Some x
got_last [] x = refl
got_last (z ∷ xs) x = got_last xs x

got_either : (xs : List (List ℕ)) (x y : List ℕ) (i : ℕ) → slice_get (xs ++ x ∷ []) i ≡ Some y →
    (slice_get xs i ≡ Some y) ⊎ ((i ≡ length xs) × (x ≡ y))
got_either [] x y zero there = inr (refl, same_Some x y there)
got_either [] x y (suc i) there = absurd (none-some y there)
got_either (z ∷ xs) x y zero there = inl there
got_either (z ∷ xs) x y (suc i) there =
    ⊎_elim (λ p. inl p) (λ p. inr (omega (arith, p.0), p.1)) (got_either xs x y i there)

-- each name has its number, and no other has it
abbrev pub AreNumbered : (List ℕ → Option ℕ) → List (List ℕ) → Type 0
AreNumbered number names = (name : List ℕ) (at : ℕ) → (number name ≡ Some at) ↔ (slice_get names at ≡ Some name)

-- a name that has none gets the next one
pub numbered_more : (old new : List ℕ → Option ℕ) (names : List (List ℕ)) (name : List ℕ) →
    AreNumbered old names → old name ≡ None →
    ((other : List ℕ) → new other ≡ cond (bytes_eq name other) (Some (length names)) (old other)) →
    AreNumbered new (names ++ name ∷ [])
numbered_more old new names name are none put other at = (
  λ e. by_name (bytes_eq name other) refl (sym (put other) ∙ e),
  λ there. put other ∙ ⊎_elim (known (bytes_eq name other) refl) last (got_either names name other at there),
)
  where
    by_name : (b : Bool) → bytes_eq name other ≡ b →
        cond b (Some (length names)) (old other) ≡ Some at → slice_get (names ++ name ∷ []) at ≡ Some other
    by_name true same e =
        ap (slice_get (names ++ name ∷ [])) (sym (same_Some (length names) at e)) ∙ got_last names name
        ∙ ap Some ((bytes_eq-Decides name other).0 same)
    by_name false same e = got_before names name other at ((are other at).0 e)

    known : (b : Bool) → bytes_eq name other ≡ b → slice_get names at ≡ Some other →
        cond (bytes_eq name other) (Some (length names)) (old other) ≡ Some at
    known true same there = absurd (none-some at
        (sym none ∙ ap old ((bytes_eq-Decides name other).0 same) ∙ (are other at).1 there))
    known false same there = ap (λ b. cond b (Some (length names)) (old other)) same ∙ (are other at).1 there

    last : (at ≡ length names) × (name ≡ other) →
        cond (bytes_eq name other) (Some (length names)) (old other) ≡ Some at
    last p = ap (λ b. cond b (Some (length names)) (old other)) ((bytes_eq-Decides name other).1 p.1) ∙ ap Some (sym p.0)
