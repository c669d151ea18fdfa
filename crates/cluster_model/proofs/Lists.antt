-- Elements of lists by their places.
use Rattle.std.proofs.Common.{◌≡◌, ◌≢◌, ℕ, ◌<◌, zero, suc, arith, List, [], ◌∷◌, ◌++◌, length, map, refl, ap, inl, inr, Option, Some, None}
use Rattle.std.specs.Prelude.{slice_get, slice_set}
use Rattle.operations.specs.Operations.{IsIn}

module _ {A : Type 0} where
  pub get_below : (xs : List A) (i : ℕ) (x : A) → slice_get xs i ≡ Some x → i < length xs
  get_below [] i x h = absurd (let impossible : ◌≡◌ {A = Option A} None (Some x) = h in cc)
  get_below (y ∷ xs) zero x h = omega arith
  get_below (y ∷ xs) (suc i) x h = let low = get_below xs i x h in omega (arith, low)

  pub get_there : (xs : List A) (i : ℕ) → i < length xs → (x : A) × (slice_get xs i ≡ Some x)
  get_there [] i low = absurd (omega (arith, low))
  get_there (y ∷ xs) zero low = (y, refl)
  get_there (y ∷ xs) (suc i) low = get_there xs i (omega (arith, low))

  pub get_set_same : (xs : List A) (i : ℕ) (x : A) → i < length xs → slice_get (slice_set xs i x) i ≡ Some x
  get_set_same [] i x low = absurd (omega (arith, low))
  get_set_same (y ∷ xs) zero x low = refl
  get_set_same (y ∷ xs) (suc i) x low = get_set_same xs i x (omega (arith, low))

  pub get_set_other : (xs : List A) (i j : ℕ) (x : A) → j ≢ i → slice_get (slice_set xs i x) j ≡ slice_get xs j
  get_set_other [] i j x ne = refl
  get_set_other (y ∷ xs) zero zero x ne = absurd (ne refl)
  get_set_other (y ∷ xs) zero (suc j) x ne = refl
  get_set_other (y ∷ xs) (suc i) zero x ne = refl
  get_set_other (y ∷ xs) (suc i) (suc j) x ne = get_set_other xs i j x (λ same. ne (ap suc same))

  pub get_append : (xs ys : List A) (i : ℕ) (x : A) → slice_get xs i ≡ Some x → slice_get (xs ++ ys) i ≡ Some x
  get_append [] ys i x h = absurd (let impossible : ◌≡◌ {A = Option A} None (Some x) = h in cc)
  get_append (y ∷ xs) ys zero x h = h
  get_append (y ∷ xs) ys (suc i) x h = get_append xs ys i x h

  pub get_last : (xs : List A) (x : A) → slice_get (xs ++ x ∷ []) (length xs) ≡ Some x
  get_last [] x = refl
  get_last (y ∷ xs) x = get_last xs x

  pub get_push : (xs : List A) (y : A) (i : ℕ) (x : A) → slice_get (xs ++ y ∷ []) i ≡ Some x → i ≢ length xs →
      slice_get xs i ≡ Some x
  get_push [] y zero x h ne = absurd (ne refl)
  get_push [] y (suc i) x h ne = h
  get_push (z ∷ xs) y zero x h ne = h
  get_push (z ∷ xs) y (suc i) x h ne = get_push xs y i x h (λ same. ne (ap suc same))

  pub set_twice : (xs : List A) (i : ℕ) (x y : A) → slice_set (slice_set xs i x) i y ≡ slice_set xs i y
  set_twice [] i x y = refl
  set_twice (z ∷ xs) zero x y = refl
  set_twice (z ∷ xs) (suc i) x y = ap (λ r. z ∷ r) (set_twice xs i x y)

  -- functions that agree on what stands in a list
  pub map_same : {B : Type 0} (f g : A → B) (xs : List A) → ((i : ℕ) (x : A) → slice_get xs i ≡ Some x → f x ≡ g x) →
      map f xs ≡ map g xs
  map_same f g [] h = refl
  map_same f g (x ∷ xs) h =
      let here = h 0 x refl in
      let rest = map_same f g xs (λ i. h (suc i)) in
      cc

  pub get_in : (xs : List A) (i : ℕ) (x : A) → slice_get xs i ≡ Some x → IsIn x xs
  get_in [] i x h = absurd (let impossible : ◌≡◌ {A = Option A} None (Some x) = h in cc)
  get_in (y ∷ xs) zero x h = inl (let same : x ≡ y = cc in same)
  get_in (y ∷ xs) (suc i) x h = inr (get_in xs i x h)
