-- The sum over all nodes, by the entries that a map has.
use Rattle.std.specs.Prelude.{◌≡◌, ◌≢◌, ◌<◌, ◌≤◌, ◌+◌, ◌*◌, ◌==◌, ℕ, Bool, true, false, cond, Option, List, ◌∷◌, unwrap_or, zero, suc}
use Rattle.std.specs.Ordering.{nat_cmp, eq_by_cmp}
use Rattle.std.specs.Map.{keys_of}
use Rattle.std.specs.List.{IsDistinct}
use Rattle.std.proofs.Common.{ap, arith, refl, ◌∙◌}
use Rattle.std.proofs.lemmas.Bool.{eqb-true, eqb-false}
use Rattle.std.proofs.lemmas.Cmp.{nat_cmp_total}
use Rattle.lattice_laws.specs.Map.{value_at}
use Rattle.lattice_laws.proofs.Turns.{none_after}
use Rattle.counters.specs.Sums.{sum_below}
use Rattle.counters.proofs.EntryLemmas.{at_itself, stored_at-head, stored_at-tail}
use Rattle.counters.proofs.SumLemmas.{sum-add, sum-at, sum-same}

module _ {J : Type 0} (bottom : J) where
  -- with an entry more there is its value at its node
  value_at-head : (k : ℕ) (v : J) (rest : List (ℕ × J)) → value_at nat_cmp bottom ((k, v) ∷ rest) k ≡ v
  value_at-head k v rest = ap (λ (o : Option J). unwrap_or o bottom) (stored_at-head k v rest)

  -- and at the others what there is without it
  value_at-tail : (k : ℕ) (v : J) (rest : List (ℕ × J)) (q : ℕ) → q ≢ k →
      value_at nat_cmp bottom ((k, v) ∷ rest) q ≡ value_at nat_cmp bottom rest q
  value_at-tail k v rest q ne = ap (λ (o : Option J). unwrap_or o bottom) (stored_at-tail k v rest q ne)

  -- where keys differ, no other entry has the first one's node
  value_at-past : (k : ℕ) (v : J) (rest : List (ℕ × J)) → IsDistinct (eq_by_cmp nat_cmp) (keys_of ((k, v) ∷ rest)) →
      value_at nat_cmp bottom rest k ≡ bottom
  value_at-past k v rest distinct = ap (λ (o : Option J). unwrap_or o bottom)
      (none_after nat_cmp_total (k, v) rest k distinct (at_itself k))

  -- what is counted at a node with an entry more
  pub counts-entry : (counts : ℕ → J → ℕ) → ((q : ℕ) → counts q bottom ≡ 0) → (k : ℕ) (v : J) (rest : List (ℕ × J))
      → IsDistinct (eq_by_cmp nat_cmp) (keys_of ((k, v) ∷ rest)) → (q : ℕ)
      → counts q (value_at nat_cmp bottom ((k, v) ∷ rest) q)
      ≡ cond (q == k) (counts k v) 0 + counts q (value_at nat_cmp bottom rest q)
  counts-entry counts none k v rest distinct q = at q (q == k) refl
    where
      at : (q : ℕ) (t : Bool) → (q == k) ≡ t
          → counts q (value_at nat_cmp bottom ((k, v) ∷ rest) q)
          ≡ cond t (counts k v) 0 + counts q (value_at nat_cmp bottom rest q)
      at q true e =
          let same : q ≡ k = eqb-true q k e in
          let here : counts q (value_at nat_cmp bottom ((k, v) ∷ rest) q) ≡ counts k v =
          ap (λ x. counts x (value_at nat_cmp bottom ((k, v) ∷ rest) x)) same
          ∙ ap (counts k) (value_at-head k v rest) in
          let past : counts q (value_at nat_cmp bottom rest q) ≡ 0 =
          ap (λ x. counts x (value_at nat_cmp bottom rest x)) same
          ∙ ap (counts k) (value_at-past k v rest distinct) ∙ none k in
          omega arith
      at q false e =
          let here : counts q (value_at nat_cmp bottom ((k, v) ∷ rest) q) ≡ counts q (value_at nat_cmp bottom rest q) =
          ap (counts q) (value_at-tail k v rest q (eqb-false q k e)) in
          omega arith

  -- an entry more adds what it counts for
  pub sum-entry : (n : ℕ) (counts : ℕ → J → ℕ) → ((q : ℕ) → counts q bottom ≡ 0)
      → (k : ℕ) (v : J) (rest : List (ℕ × J)) → k < n → IsDistinct (eq_by_cmp nat_cmp) (keys_of ((k, v) ∷ rest))
      → sum_below n (λ q. counts q (value_at nat_cmp bottom ((k, v) ∷ rest) q))
      ≡ counts k v + sum_below n (λ q. counts q (value_at nat_cmp bottom rest q))
  sum-entry n counts none k v rest below distinct =
      sum-same n _ (λ q. cond (q == k) (counts k v) 0 + counts q (value_at nat_cmp bottom rest q))
      (λ q l. counts-entry counts none k v rest distinct q) ∙
      sum-add n (λ q. cond (q == k) (counts k v) 0) (λ q. counts q (value_at nat_cmp bottom rest q)) ∙
      ap (λ m. m + sum_below n (λ q. counts q (value_at nat_cmp bottom rest q))) (sum-at n k (counts k v) below)

-- each part of a sum that is at most a bound
pub sum_below-bound : (n m : ℕ) (f : ℕ → ℕ) → ((i : ℕ) → f i ≤ m) → sum_below n f ≤ n * m
sum_below-bound zero m f h = omega arith
sum_below-bound (suc n) m f h =
    let rest = sum_below-bound n m f h in
    let here = h n in
    omega arith
