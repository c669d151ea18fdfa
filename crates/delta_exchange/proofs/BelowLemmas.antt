-- Lists of the numbers below one, one after the other: their members, their length and their order.
use Rattle.std.proofs.Common.{◌≡◌, ℕ, zero, suc, ◌*◌, ◌<◌, ◌≤◌, List, [], ◌∷◌, ◌++◌, length, map, inl, inr, ⊎_elim, refl, sym, ap, subst, ◌∙◌, length-append, arith}
use Rattle.std.specs.List.Sorted.{IsStrictlySortedBy}
use Rattle.std.specs.Ordering.{nat_cmp, ordering_then}
use Rattle.std.specs.Cmp.{nat_cmp_is}
use Rattle.std.specs.Cmp.Lexicographic.{slice_cmp}
use Rattle.std.specs.declared.cmp.Ordering.TheVariants.{Less, Equal}
use Rattle.std.proofs.Math.Nat.{mul-le-mul_right}
use Rattle.std.proofs.lemmas.Bool.{cases_lt}
use Rattle.std.proofs.lemmas.List.{map-append}
use Rattle.operations.specs.Operations.{IsIn}
use Rattle.operations.proofs.Members.{IsIn-append_left, IsIn-append_right, IsIn-append_cases}
use Rattle.replica_state.proofs.Names.{IsAscending}
use Rattle.message_format.specs.Spelling.{Ascend}
use Rattle.delta_exchange.specs.Cells.{each_below}
use Rattle.message_format.proofs.Members.{all_of, mapped_from}

-- ---- the order of places

pub by_first : (i j : ℕ) (a b : List ℕ) → i < j → slice_cmp nat_cmp (i ∷ a) (j ∷ b) ≡ Less
by_first i j a b lt = ap (λ o. ordering_then o (slice_cmp nat_cmp a b)) (sym (nat_cmp_is i j Less lt))

pub by_rest : (i : ℕ) (a b : List ℕ) → slice_cmp nat_cmp a b ≡ Less → slice_cmp nat_cmp (i ∷ a) (i ∷ b) ≡ Less
by_rest i a b lt = ap (λ o. ordering_then o (slice_cmp nat_cmp a b)) (sym (nat_cmp_is i i Equal refl)) ∙ lt

-- ---- lists in order

pub ascends : (ns : List (List ℕ)) → IsAscending ns → Ascend ns
unfolding IsStrictlySortedBy
ascends [] h = tt
ascends (n ∷ ns) h = (all_of (λ m. slice_cmp nat_cmp n m ≡ Less) ns h.0, ascends ns h.1)

pub ascending_append : (xs ys : List (List ℕ)) → IsAscending xs → IsAscending ys →
    ((x y : List ℕ) → IsIn x xs → IsIn y ys → slice_cmp nat_cmp x y ≡ Less) → IsAscending (xs ++ ys)
ascending_append [] ys h k across = k
ascending_append (x ∷ xs) ys h k across = (
  λ m i. ⊎_elim (h.0 m) (λ j. across x m (inl refl) j) (IsIn-append_cases m xs ys i),
  ascending_append xs ys h.1 k (λ a b i j. across a b (inr i) j),
)

-- ---- the lists

module _ {C : Type 0} (f : ℕ → List C) where
  pub below_in : (n : ℕ) (c : C) → IsIn c (each_below f n) → (i : ℕ) × (i < n) × IsIn c (f i)
  unfolding each_below
  below_in zero c h = absurd h
  below_in (suc n) c h = ⊎_elim
      (λ l. let r = below_in n c l in (r.0, omega (arith, r.1), r.2))
      (λ l. (n, omega arith, l))
      (IsIn-append_cases c (each_below f n) (f n) h)

  pub in_below : (n i : ℕ) (c : C) → i < n → IsIn c (f i) → IsIn c (each_below f n)
  unfolding each_below
  in_below zero i c lt h = absurd (omega (arith, lt))
  in_below (suc n) i c lt h = ⊎_elim
      (λ l. IsIn-append_left c (each_below f n) (f n) (in_below n i c l h))
      (λ e. IsIn-append_right c (each_below f n) (f n) (subst (λ j. IsIn c (f j)) e h))
      (⊎_elim (λ l. inl l) (λ l. inr (omega (arith, l, lt))) (cases_lt i n))

  length_upto : (k n : ℕ) → ((i : ℕ) → length (f i) ≤ k) → length (each_below f n) ≤ n * k
  unfolding each_below
  length_upto k zero h = omega arith
  length_upto k (suc n) h =
      let rest = length_upto k n h in
      let one = h n in
      simp length-append (omega (arith, rest, one))

  -- at most so many in all, where each list has at most so many
  pub length_below : (k n most : ℕ) → n ≤ most → ((i : ℕ) → length (f i) ≤ k) → length (each_below f n) ≤ most * k
  length_below k n most le h =
      let a = length_upto k n h in
      let b : n * k ≤ most * k = mul-le-mul_right k le in
      omega (arith, a, b)

  pub ascending_below : (place : C → List ℕ) (n : ℕ) → ((i : ℕ) → IsAscending (map place (f i)))
      → ((i j : ℕ) (c d : C) → i < j → IsIn c (f i) → IsIn d (f j) → slice_cmp nat_cmp (place c) (place d) ≡ Less) →
      IsAscending (map place (each_below f n))
  unfolding each_below
  ascending_below place zero h across = tt
  ascending_below place (suc n) h across =
      subst IsAscending (sym (map-append place (each_below f n) (f n)))
      (ascending_append (map place (each_below f n)) (map place (f n)) (ascending_below place n h across) (h n)
      (λ x y a b.
      let c = mapped_from place (each_below f n) x a in
      let d = mapped_from place (f n) y b in
      let r = below_in n c.0 c.1 in
      subst (λ z. slice_cmp nat_cmp z y ≡ Less) (sym c.2) (subst (λ z. slice_cmp nat_cmp (place c.0) z ≡ Less) (sym d.2)
      (across r.0 n c.0 d.0 r.1 r.2 d.1))))
