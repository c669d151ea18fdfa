use Rattle.std.proofs.Common.{ap}
use Rattle.lattice_laws.specs.Order.{may_join_through}
use Rattle.replica_state.specs.declared.matrix.Matrix.{Matrix}
use Rattle.replica_state.specs.Slots.{shown_slots}
use Rattle.replica_state.specs.MatrixStates.{matrix_state}
use Rattle.replica_state.proofs.Learned.{on_ok, on_err}
use Rattle.replica_state.proofs.MatrixJoins.{slots_unite}
use Rattle.replica_state.proofs.Reaching.{after_call, united}
use Rattle.replica_state.proofs.matrix.MatrixJoin.join_in.Goals as goal

pub invariant_of-self : goal.invariant_of-self
invariant_of-self c = record {
  reached = after_call c.join_in.result (shown_slots c.args.self.now.slots) (shown_slots c.join_in.new.self)
      c.args.self.now.reached
      (on_ok c.join_in.result (λ join. united (shown_slots c.args.self.now.slots) (shown_slots c.args.other.slots)
      (shown_slots c.join_in.new.self)
      (slots_unite c.args.self.now.slots c.args.other.slots c.join_in.new.self join) c.args.self.now.reached
      c.args.other.reached) c.join_in.ensures.ok)
      (on_err c.join_in.result (λ same. ap shown_slots same) c.join_in.ensures.err);
}

pub returns-clause-ok : goal.returns-clause-ok
returns-clause-ok c = may_join_through _ _ (λ (matrix : Matrix). matrix.slots) c.args.self.now c.args.other _
    c.join_in.result c.join_in.ensures.ok

pub returns-clause-union : goal.returns-clause-union
unfolding matrix_state
returns-clause-union c = on_ok c.join_in.result (slots_unite c.args.self.now.slots c.args.other.slots
    c.join_in.new.self) c.join_in.ensures.ok
