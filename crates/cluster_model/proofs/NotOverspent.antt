-- A message that tells what differs never brings its receiver to a state that is overspent: of each node that state has
-- what the node had at one of its versions, and at none of them had more gone from it than it was given.
use Rattle.std.proofs.Common.{◌≡◌, ℕ, ◌+◌, ◌≤◌, List, [], ◌∷◌, ◌++◌, false, sym, ◌∙◌, ap, subst, ⊎_elim, Option, Some, None}
use Rattle.counters.specs.Sums.{node_numbers, sum_below}
use Rattle.counters.specs.Budgets.{Budget, given_to, gone_from}
use Rattle.stamp_register.specs.Keys.{KeyValue}
use Rattle.operations.specs.Operations.{Operation, IsIn, count_of, name_in}
use Rattle.replica_state.specs.States.{State, budget, granted_in}
use Rattle.replica_state.specs.Folds.{fold}
use Rattle.replica_state.proofs.Changes.{false_any}
use Rattle.node_calls.specs.Asks.{Message}
use Rattle.node_steps.specs.Refusals.{overspends}
use Rattle.cluster_model.specs.Worlds.{Cluster, Event, accepted, world}
use Rattle.cluster_model.specs.Schedules.{IsSchedule, IsDeltaSchedule}
use Rattle.cluster_model.specs.Histories.{state_of}
use Rattle.cluster_model.specs.Views.{SeesWhole}
use Rattle.cluster_model.specs.Laws.{merge_overspends}
use Rattle.cluster_model.proofs.Stamps.{OneStamp, one_stamp, one_before}
use Rattle.cluster_model.proofs.Rights.{under_cells, solvent}
use Rattle.cluster_model.proofs.Honest.{none_overspent, merged_issued}
use Rattle.cluster_model.proofs.Closed.{deltas_are_schedules}
use Rattle.cluster_model.proofs.KnownVersions.{node_has_history, past_or_now}
use Rattle.cluster_model.proofs.SeesWhole.{merged_sees_whole}
use Rattle.cluster_model.proofs.Budgets.{spent_at_most, solvent_as_of}

-- no more of the term went from node i than it was given
abbrev IsSolvent : List ℕ → KeyValue → ℕ → ℕ → ℕ → State → Type 0
IsSolvent name key term count i v = gone_from (budget v name term key.node count) i ≤ given_to
    (budget v name term key.node count) i

module _ (name : List ℕ) (key : KeyValue) (term count : ℕ) (counted : count_of key term ≡ Some count) where
  solvent_now : (c : Cluster) (es : List Event) → IsSchedule c es → OneStamp c es name key → (i : ℕ) →
      (state_of c es i).key name ≡ Some key → IsSolvent name key term count i (state_of c es i)
  solvent_now c es s one i under =
      subst (λ (b : Budget). gone_from b i ≤ given_to b i) (sym
      (under_cells name key term count ((world c es).node i).ops under))
      (solvent c es s name key term count counted one i)

  -- so it is with each node's own rights at each of its versions
  solvent_past : (c : Cluster) (es : List Event) → IsSchedule c es → OneStamp c es name key → (i v : ℕ) →
      v ≤ ((world c es).node i).marks.version →
      (((world c es).node i).past v).key name ≡ Some key → IsSolvent name key term count i
      (((world c es).node i).past v)
  unfolding fold
  solvent_past c [] s one i v l under = absurd (let impossible : ◌≡◌ {A = Option KeyValue} None (Some key) = under in
      cc)
  solvent_past c (e ∷ es) s one i v l under = ⊎_elim
      (λ k. subst (IsSolvent name key term count i) (sym k.1)
      (solvent_past c es s.1 (one_before c e es name key one) i v k.0
      (ap (λ (w : State). w.key name) (sym k.1) ∙ under)))
      (λ k. subst (IsSolvent name key term count i) (sym k) (solvent_now c (e ∷ es) s one i
      (ap (λ (w : State). w.key name) (sym k) ∙ under)))
      (past_or_now i ((world c es).node i) (accepted c (world c es) e i) e.words (node_has_history c es i) v l)

  -- and with each node in a state that sees it whole
  solvent_seen : (c : Cluster) (es : List Event) → IsSchedule c es → OneStamp c es name key → (v : State) (j : ℕ) →
      SeesWhole (world c es) v j → v.key name ≡ Some key → IsSolvent name key term count j v
  solvent_seen c es s one v j sees under =
      solvent_as_of v (((world c es).node j).past sees.version) j sees.as_of name key term count under
      (solvent_past c es s one j sees.version sees.reached)

pub merge_not_overspent : (c : Cluster) (es : List Event) → IsDeltaSchedule c es → (i : ℕ) (m : Message) →
    IsIn m (world c es).messages → m.to ≡ i → merge_overspends c es i m ≡ false
merge_not_overspent c es delta i m sent_then mine = false_any (overspends (fold merged)) m.ops
    (λ op h. none_overspent (fold merged) at_most (name_in op))
  where
    merged : List Operation
    merged = m.ops ++ ((world c es).node i).ops

    s : IsSchedule c es
    s = deltas_are_schedules c es delta

    at_most : (name : List ℕ) (key : KeyValue) (term count : ℕ) → (fold merged).key name ≡ Some key →
        count_of key term ≡ Some count → sum_below node_numbers ((fold merged).execs name term) ≤ count + sum_below
        node_numbers (granted_in (fold merged) name term)
    at_most name key term count under counted =
        spent_at_most (budget (fold merged) name term key.node count)
        (λ j. solvent_seen name key term count counted c es s
        (one_stamp c es name key (merged_issued c es s i m sent_then name key under)) (fold merged) j
        (merged_sees_whole c es delta i m sent_then mine j) under)
