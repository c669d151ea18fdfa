use Rattle.lattice_laws.specs.Order.{join_through}
use Rattle.replica_state.specs.declared.matrix.Matrix.{Matrix}
use Rattle.replica_state.specs.Slots.{shown_slots}
use Rattle.replica_state.specs.MatrixStates.{matrix_state}
use Rattle.replica_state.proofs.MatrixJoins.{slots_unite}
use Rattle.replica_state.proofs.Reaching.{united}
use Rattle.replica_state.proofs.matrix.MatrixJoin.joined.Goals as goal

pub invariant_of-result : goal.invariant_of-result
invariant_of-result c = record {
  reached = united (shown_slots c.args.self.now.slots) (shown_slots c.args.other.now.slots)
      (shown_slots c.in_ok-slots.slots)
      (slots_unite c.args.self.now.slots c.args.other.now.slots c.in_ok-slots.slots c.in_ok-slots.ensures)
      c.args.self.now.reached c.args.other.now.reached;
}

pub returns-clause-join : goal.returns-clause-join
returns-clause-join c = join_through (λ (matrix : Matrix). matrix.slots) c.args.self.now c.args.other.now _
    c.in_ok-slots.ensures

pub returns-clause-union : goal.returns-clause-union
unfolding matrix_state
returns-clause-union c = slots_unite c.args.self.now.slots c.args.other.now.slots c.in_ok-slots.slots
    c.in_ok-slots.ensures
