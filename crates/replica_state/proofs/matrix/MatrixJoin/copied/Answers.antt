use Rattle.std.proofs.Common.{sym, subst}
use Rattle.std.specs.Ordering.{nat_cmp}
use Rattle.std.specs.Cmp.Lexicographic.{slice_cmp}
use Rattle.lattice_laws.specs.Order.{IsCopy}
use Rattle.lattice_laws.specs.Map.{MapOrder}
use Rattle.replica_state.specs.declared.matrix.Matrix.{Matrix}
use Rattle.replica_state.specs.Reached.{IsReached}
use Rattle.replica_state.specs.Slots.{no_slot}
use Rattle.replica_state.specs.MatrixStates.{matrix_state}
use Rattle.replica_state.specs.MatrixOrder.{slots_order, slots_map, IsMatrix, IsMatrixBelow}
use Rattle.replica_state.proofs.MatrixJoins.{slots_copied}
use Rattle.replica_state.proofs.matrix.MatrixJoin.copied.Goals as goal

copies : (x y : Matrix) → IsCopy slots_map (MapOrder (slice_cmp nat_cmp) slots_order no_slot) x.slots y.slots →
    IsCopy IsMatrix IsMatrixBelow x y
copies x y copy = record {
  admitted_source = copy.admitted_source;
  admitted_copy = copy.admitted_copy;
  above =
      copy.above;
  below = copy.below;
}

pub invariant_of-result : goal.invariant_of-result
invariant_of-result c = record {
  reached = subst IsReached (sym
      (slots_copied c.args.self.now.slots c.in_ok-slots.slots c.in_ok-slots.ensures)) c.args.self.now.reached;
}

pub returns-clause-copy : goal.returns-clause-copy
returns-clause-copy c = copies c.args.self.now _ c.in_ok-slots.ensures

pub returns-clause-state : goal.returns-clause-state
unfolding matrix_state
returns-clause-state c = slots_copied c.args.self.now.slots c.in_ok-slots.slots c.in_ok-slots.ensures
