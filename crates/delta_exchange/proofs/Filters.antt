-- The members and the order of those elements of a list that pass a test, and of lists one after the other.
use Rattle.std.proofs.Common.{◌≡◌, ℕ, inl, inr, Bool, true, false, cond, List, [], ◌∷◌, map, refl, sym, ap, subst, ◌∙◌}
use Rattle.std.specs.Prelude.{not, IsTrue}
use Rattle.std.specs.List.{filter}
use Rattle.std.specs.Ordering.{nat_cmp}
use Rattle.std.specs.Cmp.Lexicographic.{slice_cmp}
use Rattle.std.specs.declared.cmp.Ordering.TheVariants.{Less}
use Rattle.operations.specs.Operations.{IsIn}
use Rattle.replica_state.proofs.Names.{IsAscending}
use Rattle.message_format.proofs.Members.{mapped_from, mapped_in}

-- ---- what passes a test

pub not_both : (b : Bool) → IsTrue (not b) → IsTrue b → ⊥
not_both true n t = absurd cc
not_both false n t = absurd cc

pub passes_not : (b : Bool) → (IsTrue b → ⊥) → IsTrue (not b)
passes_not true h = absurd (h refl)
passes_not false h = refl

module _ {A : Type 0} (test : A → Bool) where
  pub in_filter : (xs : List A) (x : A) → IsIn x (filter test xs) → IsIn x xs × IsTrue (test x)
  in_filter [] x h = absurd h
  in_filter (y ∷ xs) x h = by_test (test y) refl (in_filter xs x) h
    where
      by_test : (b : Bool) → test y ≡ b → (IsIn x (filter test xs) → IsIn x xs × IsTrue (test x)) →
          IsIn x (cond b (y ∷ filter test xs) (filter test xs)) → IsIn x (y ∷ xs) × IsTrue (test x)
      by_test true e rest (inl s) = (inl s, ap test s ∙ e)
      by_test true e rest (inr i) = let r = rest i in (inr r.0, r.1)
      by_test false e rest i = let r = rest i in (inr r.0, r.1)

  pub filter_in : (xs : List A) (x : A) → IsIn x xs → IsTrue (test x) → IsIn x (filter test xs)
  filter_in [] x h t = absurd h
  filter_in (y ∷ xs) x (inl e) t = subst (λ b. IsIn x (cond b (y ∷ filter test xs) (filter test xs)))
      (sym (sym (ap test e) ∙ t)) (inl e)
  filter_in (y ∷ xs) x (inr h) t = by_test (test y) (filter_in xs x h t)
    where
      by_test : (b : Bool) → IsIn x (filter test xs) → IsIn x (cond b (y ∷ filter test xs) (filter test xs))
      by_test true r = inr r
      by_test false r = r

  pub filter_ascends : (place : A → List ℕ) (xs : List A) → IsAscending (map place xs) →
      IsAscending (map place (filter test xs))
  filter_ascends place [] h = tt
  filter_ascends place (x ∷ xs) h = by_test (test x) (filter_ascends place xs h.1)
    where
      first : (m : List ℕ) → IsIn m (map place (filter test xs)) → slice_cmp nat_cmp (place x) m ≡ Less
      first m i =
          let c = mapped_from place (filter test xs) m i in
          subst (λ z. slice_cmp nat_cmp (place x) z ≡ Less) (sym c.2)
          (h.0 (place c.0) (mapped_in place xs c.0 (in_filter xs c.0 c.1).0))

      by_test : (b : Bool) → IsAscending (map place (filter test xs)) →
          IsAscending (map place (cond b (x ∷ filter test xs) (filter test xs)))
      by_test true r = (first, r)
      by_test false r = r

  pub filter_all : (xs : List A) → ((x : A) → IsIn x xs → IsTrue (test x)) → filter test xs ≡ xs
  filter_all [] h = refl
  filter_all (x ∷ xs) h = ap (λ b. cond b (x ∷ filter test xs) (filter test xs)) (h x (inl refl)) ∙
      ap (λ (ys : List A). x ∷ ys) (filter_all xs (λ y i. h y (inr i)))

  pub filter_none : (xs : List A) → ((x : A) → IsIn x xs → test x ≡ false) → filter test xs ≡ []
  filter_none [] h = refl
  filter_none (x ∷ xs) h = ap (λ b. cond b (x ∷ filter test xs) (filter test xs)) (h x (inl refl)) ∙
      filter_none xs (λ y i. h y (inr i))
