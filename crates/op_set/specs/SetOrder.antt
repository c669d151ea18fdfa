-- What plain replicas stand for, and that they are ordered as their states are.
use Rattle.std.proofs.Common.{◌≡◌, [], inl, inr, sym, refl, subst, arith, Option, Some, None}
use Rattle.lattice_laws.specs.Order.{IsJoinOrder}
use Rattle.stamp_register.specs.Keys.{KeyValue}
use Rattle.op_set.specs.declared.set.OpSet.{OpSet}
use Rattle.replica_state.specs.States.{State}
use Rattle.replica_state.specs.StateOrder.{IsKeyBelow, AreCellsBelow, IsBelow, below-refl, below-trans}
use Rattle.replica_state.specs.Folds.{fold}
use Rattle.replica_state.specs.Reached.{IsReached}
use Rattle.op_set.specs.Shown.{shown}

-- the state of a plain replica
unfoldable pub state_of : OpSet → State
state_of set = shown set.points

pub set_reached : (set : OpSet) → IsReached (state_of set)
unfolding state_of
set_reached set = set.reached

-- each plain replica is one
abbrev pub IsSet : OpSet → Type 0
IsSet set = Unit {0}

-- the one knows no more than the other
abbrev pub IsSetBelow : OpSet → OpSet → Type 0
IsSetBelow set other = IsBelow (state_of set) (state_of other)

-- no points come of no operations
pub nothing_reached : IsReached (shown [])
unfolding shown fold
nothing_reached = ∣ record { ops = []; formed = tt; state = refl } ∣₁

-- the plain replica without points
abbrev pub no_points : OpSet
no_points = record { points = []; reached = nothing_reached }

no_points-below : (w : State) → IsBelow (state_of no_points) w
unfolding state_of shown
no_points-below w name = record { hits = λ node. omega arith; cells = by_key (w.key name) refl }
  where
    by_key : (k : Option KeyValue) → w.key name ≡ k →
        AreCellsBelow None (w.key name) (λ term node. 0) (w.execs name) (λ term from to. 0) (w.shifts name)
    by_key None e = inr (sym e, λ term node. omega arith, λ term from to. omega arith)
    by_key (Some key) e = inl (subst (IsKeyBelow None) (sym e) tt)

pub set_order : IsJoinOrder IsSet IsSetBelow no_points
set_order = record {
  reflexive = λ v a. below-refl (state_of v);
  transitive = λ u v w a b c h k. below-trans (state_of u) (state_of v) (state_of w) h k;
  bottom_admitted = tt;
  bottom_least = λ v a. no_points-below (state_of v);
}
