-- Sums over the nodes of which something is counted are those over all nodes.
use Rattle.std.proofs.Common.{◌≡◌, ◌≢◌, ℕ, ◌≤◌, ◌==◌, Bool, true, false, cond, max, ◌<◌, ◌+◌, ◌++◌, ◌∙◌, List, [], ◌∷◌, take, length, get_or, ⊎_elim, refl, sym, ap, subst, add-one, arith}
use Rattle.std.specs.List.{AllByRecursion}
use Rattle.std.proofs.Math.Seq.{take-suc}
use Rattle.std.proofs.lemmas.Bool.{cases_eq}
use Rattle.counters.specs.Sums.{node_numbers, sum_below, sum_others}
use Rattle.counters.proofs.SumLemmas.{sum-narrow}
use Rattle.operations.specs.declared.counted.Counted.{Counted}
use Rattle.operations.specs.declared.counted.Count.{Count}
use Rattle.operations.specs.Counts.{same_counted}
use Rattle.op_set.specs.Counts.{node_bound, number_of}
use Rattle.operations.proofs.Counts.{same_counted-true}

-- what isn't 0 is below a number that is above all nodes
pub bound_of : (n : ℕ) (cs : List Count) → AllByRecursion (λ x. node_bound x.counted ≤ n) cs → (c : Counted) →
    number_of cs c ≢ 0 → node_bound c ≤ n
bound_of n [] all c some = absurd (some refl)
bound_of n (x ∷ cs) all c some = by_test (same_counted x.counted c) refl some (bound_of n cs all.1 c)
  where
    by_test : (t : Bool) → same_counted x.counted c ≡ t → max (cond t x.number 0) (number_of cs c) ≢ 0 →
        (number_of cs c ≢ 0 → node_bound c ≤ n) → node_bound c ≤ n
    by_test true e h go = subst (λ d. node_bound d ≤ n) (same_counted-true x.counted c e) all.0
    by_test false e h go = go (λ z. h (omega (arith, z)))

-- a greater bound is one too
pub bound_grows : (n m : ℕ) → n ≤ m → (cs : List Count) → AllByRecursion (λ x. node_bound x.counted ≤ n) cs →
    AllByRecursion (λ x. node_bound x.counted ≤ m) cs
bound_grows n m le [] all = tt
bound_grows n m le (x ∷ cs) all = (omega (arith, le, all.0), bound_grows n m le cs all.1)

all_and_one : (n : ℕ) (cs : List Count) (x : Count) → AllByRecursion (λ (x : Count). node_bound x.counted ≤ n) cs →
    node_bound x.counted ≤ n → AllByRecursion (λ (x : Count). node_bound x.counted ≤ n) (cs ++ x ∷ [])
all_and_one n [] x all one = (one, tt)
all_and_one n (y ∷ cs) x all one = (all.0, all_and_one n cs x all.1 one)

-- and a bound of one more
pub bounds_next : (n m : ℕ) (cs : List Count) (i : ℕ) (d : Count) → i < length cs → n ≤ m →
    node_bound (get_or cs i d).counted ≤ m → AllByRecursion (λ (x : Count). node_bound x.counted ≤ n) (take i cs)
    → AllByRecursion (λ (x : Count). node_bound x.counted ≤ m) (take (i + 1) cs)
bounds_next n m cs i d below le one all =
    subst (AllByRecursion (λ (x : Count). node_bound x.counted ≤ m))
    (sym (ap (λ k. take k cs) (add-one i) ∙ take-suc cs i d below))
    (all_and_one m (take i cs) (get_or cs i d) (bound_grows n m le (take i cs) all) one)

module _ (n : ℕ) (few : n ≤ 256) (f : ℕ → ℕ) (above : (i : ℕ) → f i ≢ 0 → i + 1 ≤ n) where
  none_above : (i : ℕ) → n ≤ i → f i ≡ 0
  none_above i le = ⊎_elim (λ z. z) (λ some. let lt = above i some in absurd (omega (arith, le, lt))) (cases_eq (f i) 0)

  pub sum_counted : sum_below n f ≡ sum_below node_numbers f
  unfolding node_numbers
  sum_counted = sym (sum-narrow n 256 f few none_above)

  pub others_counted : (k : ℕ) → sum_others n k f ≡ sum_others node_numbers k f
  unfolding node_numbers
  others_counted k = sym (sum-narrow n 256 (λ i. cond (i == k) 0 (f i)) few
      (λ i le. by_test (i == k) (none_above i le)))
    where
      by_test : {x : ℕ} (t : Bool) → x ≡ 0 → cond t 0 x ≡ 0
      by_test true z = refl
      by_test false z = z
