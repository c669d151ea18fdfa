use Rattle.std.proofs.Common.{ap, sym, subst, ◌∙◌, ℕ, List}
use Rattle.replica_state.specs.declared.slot.Slot.{Slot}
use Rattle.replica_state.specs.Slots.{shown_slots}
use Rattle.replica_state.specs.Reached.{IsReached}
use Rattle.replica_state.specs.MatrixOrder.{nothing_reached}
use Rattle.replica_state.specs.MatrixStates.{matrix_state}
use Rattle.replica_state.proofs.Slots.{nothing_shown}
use Rattle.replica_state.proofs.matrix.MatrixReplica.empty.Goals as goal

pub invariant_of-result : goal.invariant_of-result
invariant_of-result c = record {
  reached = subst (λ (slots : List (List ℕ × Slot)). IsReached (shown_slots slots))
      (sym c.new.ensures) nothing_reached;
}

pub returns : goal.returns
unfolding matrix_state
returns c = ap shown_slots c.new.ensures ∙ nothing_shown
