use Rattle.std.proofs.Common.{sym, subst}
use Rattle.replica_state.specs.Reached.{IsReached}
use Rattle.replica_state.specs.Slots.{shown_slots}
use Rattle.replica_state.specs.MatrixStates.{matrix_state}
use Rattle.replica_state.proofs.Learned.{on_ok}
use Rattle.replica_state.proofs.Reaching.{after_call, passed}
use Rattle.replica_state.proofs.matrix.MatrixReplica.count_pass.Goals as goal

pub invariant_of-self : goal.invariant_of-self
unfolding matrix_state
invariant_of-self c = record {
  reached = after_call c.count_pass.result (shown_slots c.args.self.now.slots) (shown_slots c.count_pass.new.slots)
      c.args.self.now.reached
      (on_ok c.count_pass.result (λ h. subst IsReached (sym h)
      (passed c.args.name.now c.args.node c.args.spent (shown_slots c.args.self.now.slots) c.requires.set
      c.requires.counted c.args.self.now.reached)) c.count_pass.ensures.ok)
      c.count_pass.ensures.err;
}
