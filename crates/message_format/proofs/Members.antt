-- The members of lists, of mapped lists and of lists one after the other.
use Rattle.std.proofs.Common.{◌≡◌, inl, inr, List, [], ◌∷◌, ◌++◌, map, refl, sym, ap, subst, ◌∙◌, ⊎_elim}
use Rattle.std.specs.List.{flat_map, AllByRecursion}
use Rattle.std.proofs.lemmas.List.Concat.{flat_map-cons}
use Rattle.operations.specs.Operations.{IsIn}
use Rattle.operations.proofs.Members.{IsIn-append_left, IsIn-append_right, IsIn-append_cases}

-- what holds of each holds of a member
pub one_of : {A : Type 0} (P : A → Type 0) (xs : List A) → AllByRecursion P xs → (x : A) → IsIn x xs → P x
one_of P [] all x h = absurd h
one_of P (y ∷ xs) all x (inl e) = subst P (sym e) all.0
one_of P (y ∷ xs) all x (inr h) = one_of P xs all.1 x h

-- and what holds of each member holds of each
pub all_of : {A : Type 0} (P : A → Type 0) (xs : List A) → ((x : A) → IsIn x xs → P x) → AllByRecursion P xs
all_of P [] each = tt
all_of P (x ∷ xs) each = (each x (inl refl), all_of P xs (λ y h. each y (inr h)))

-- a member of a mapped list is made of one that is there
pub mapped_from : {A B : Type 0} (f : A → B) (xs : List A) (y : B) → IsIn y (map f xs) → (x : A) × IsIn x xs × (y ≡ f x)
mapped_from f [] y h = absurd h
mapped_from f (x ∷ xs) y (inl e) = (x, inl refl, e)
mapped_from f (x ∷ xs) y (inr h) =
    let r = mapped_from f xs y h in
    (r.0, inr r.1, r.2)

pub mapped_in : {A B : Type 0} (f : A → B) (xs : List A) (x : A) → IsIn x xs → IsIn (f x) (map f xs)
mapped_in f [] x h = absurd h
mapped_in f (y ∷ xs) x (inl e) = inl (ap f e)
mapped_in f (y ∷ xs) x (inr h) = inr (mapped_in f xs x h)

-- ---- lists one after the other

module _ {A B : Type 0} (f : A → List B) where
  pub in_flat : (xs : List A) (y : B) → IsIn y (flat_map f xs) → (x : A) × IsIn x xs × IsIn y (f x)
  in_flat [] y h = absurd h
  in_flat (x ∷ xs) y h = ⊎_elim
      (λ l. (x, inl refl, l))
      (λ l. let r = in_flat xs y l in (r.0, inr r.1, r.2))
      (IsIn-append_cases y (f x) (flat_map f xs) (subst (IsIn y) (flat_map-cons f x xs) h))

  pub flat_in : (xs : List A) (x : A) (y : B) → IsIn x xs → IsIn y (f x) → IsIn y (flat_map f xs)
  flat_in [] x y h k = absurd h
  flat_in (z ∷ xs) x y (inl e) k = subst (IsIn y) (sym (flat_map-cons f z xs))
      (IsIn-append_left y (f z) (flat_map f xs) (subst (λ u. IsIn y (f u)) e k))
  flat_in (z ∷ xs) x y (inr h) k = subst (IsIn y) (sym (flat_map-cons f z xs))
      (IsIn-append_right y (f z) (flat_map f xs) (flat_in xs x y h k))

  pub flat_none : (xs : List A) → ((x : A) → IsIn x xs → f x ≡ []) → flat_map f xs ≡ []
  flat_none [] h = refl
  flat_none (x ∷ xs) h = flat_map-cons f x xs ∙ (λ i. h x (inl refl) i ++ flat_map f xs) ∙
      flat_none xs (λ y k. h y (inr k))

pub flat_same : {A : Type 0} (f : A → List A) (xs : List A) → ((x : A) → IsIn x xs → f x ≡ x ∷ []) → flat_map f xs ≡ xs
flat_same f [] h = refl
flat_same f (x ∷ xs) h = flat_map-cons f x xs ∙ (λ i. h x (inl refl) i ++ flat_map f xs) ∙
    ap (λ ys. x ∷ ys) (flat_same f xs (λ y k. h y (inr k)))
