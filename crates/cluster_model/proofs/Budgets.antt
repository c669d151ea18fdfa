-- Where each node's own cells are as of a state in which no more went from it than it was given, no more was spent
-- than the count and the grants.
use Rattle.std.proofs.Common.{◌≡◌, ℕ, ◌+◌, ◌≤◌, ◌==◌, Bool, true, false, cond, refl, sym, ◌∙◌, ap, arith, List, Some}
use Rattle.std.proofs.lemmas.Bool.{eqb-true}
use Rattle.counters.specs.Sums.{node_numbers, sum_others}
use Rattle.counters.specs.Budgets.{Budget, granted_by, given_to, gone_from, total_spent, total_granted}
use Rattle.counters.proofs.Conserved.{from_to}
use Rattle.counters.proofs.SumLemmas.{sum-le, sum-add, sum-one, sum_others-le, sum_others-same, sum_others-zero}
use Rattle.stamp_register.specs.Keys.{KeyValue}
use Rattle.operations.specs.Operations.{Execs, Shifts}
use Rattle.replica_state.specs.States.{State, budget}
use Rattle.node_steps.proofs.UptoStates.{upto_below}
use Rattle.cluster_model.specs.Histories.{is_key}
use Rattle.cluster_model.specs.Views.{IsAsOf}
use Rattle.cluster_model.proofs.Rights.{is_key-of}
use Rattle.cluster_model.proofs.Views.{number_under, same_number}

-- where from no node went more than it was given, no more was spent than the count and the grants
pub spent_at_most : (b : Budget) → ((i : ℕ) → gone_from b i ≤ given_to b i) → total_spent b ≤ b.count + total_granted b
spent_at_most b h =
    let all = sum-le node_numbers (gone_from b) (given_to b) h in
    let gone = sum-add node_numbers (λ i. sum_others node_numbers i (λ j. b.shifted i j)) b.spent in
    let given = sum-add node_numbers (λ i. cond (i == b.setter) b.count 0 + granted_by b i)
    (λ i. sum_others node_numbers i (λ j. b.shifted j i)) in
    let had = sum-add node_numbers (λ i. cond (i == b.setter) b.count 0) (granted_by b) in
    let moved = from_to node_numbers b.shifted in
    let own = sum-one node_numbers (λ i. cond (i == b.setter) b.count 0) b.setter b.count
    (λ i ne. other (i == b.setter) (λ e. ne (eqb-true i b.setter e))) (at_most (b.setter == b.setter)) in
    omega (arith, all, gone, given, had, moved, own)
  where
    other : (t : Bool) → (t ≡ true → ⊥) → cond t b.count 0 ≡ 0
    other true ne = absurd (ne refl)
    other false ne = refl

    at_most : (t : Bool) → cond t b.count 0 ≤ b.count
    at_most true = omega arith
    at_most false = omega arith

module _ (v w : State) (j : ℕ) (as_of : IsAsOf v w j) (name : List ℕ) (key : KeyValue) (term count : ℕ)
    (under : v.key name ≡ Some key) where
  -- of what node j wrote there is as much, where that is under the key
  execs_are : v.execs name term j ≡ number_under w (Execs name key term j)
  execs_are = same_number v w j as_of (Execs name key term j) refl (v.execs name term j) (under, refl)

  shifts_are : (to : ℕ) → v.shifts name term j to ≡ number_under w (Shifts name key term j to)
  shifts_are to = same_number v w j as_of (Shifts name key term j to) refl (v.shifts name term j to) (under, refl)

  -- and what others shifted to it, and it granted itself, is no less
  given_upto : w.key name ≡ Some key → (from : ℕ) → w.shifts name term from j ≤ v.shifts name term from j
  given_upto e from = (upto_below w v name (as_of.above name)).shifts (e ∙ sym under) term from j

  pub solvent_as_of : (w.key name ≡ Some key → gone_from (budget w name term key.node count) j ≤ given_to
      (budget w name term key.node count) j) → gone_from (budget v name term key.node count) j ≤ given_to
      (budget v name term key.node count) j
  solvent_as_of solvent = at (is_key key (w.key name)) refl
    where
      at : (t : Bool) → is_key key (w.key name) ≡ t → gone_from (budget v name term key.node count) j ≤ given_to
          (budget v name term key.node count) j
      at true e =
          let there = is_key-of key (w.key name) e in
          let enough = solvent there in
          let spent : v.execs name term j ≡ w.execs name term j = execs_are ∙
          ap (λ t. cond t (w.execs name term j) 0) e in
          let out = sum_others-same node_numbers j (v.shifts name term j) (w.shifts name term j)
          (λ to. shifts_are to ∙ ap (λ t. cond t (w.shifts name term j to) 0) e) in
          let came = sum_others-le node_numbers j (λ from. w.shifts name term from j)
          (λ from. v.shifts name term from j) (given_upto there) in
          let grants : w.shifts name term j j ≤ v.shifts name term j j = given_upto there j in
          omega (arith, enough, spent, out, came, grants)
      at false e =
          let spent : v.execs name term j ≡ 0 = execs_are ∙ ap (λ t. cond t (w.execs name term j) 0) e in
          let out = sum_others-zero node_numbers j (v.shifts name term j)
          (λ to. shifts_are to ∙ ap (λ t. cond t (w.shifts name term j to) 0) e) in
          omega (arith, spent, out)
