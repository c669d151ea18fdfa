use Rattle.std.proofs.Common.{sym, subst}
use Rattle.replica_state.specs.Reached.{IsReached}
use Rattle.replica_state.specs.Slots.{shown_slots}
use Rattle.replica_state.specs.MatrixStates.{matrix_state}
use Rattle.replica_state.proofs.Learned.{on_ok}
use Rattle.replica_state.proofs.Reaching.{after_call, shifted}
use Rattle.replica_state.proofs.matrix.MatrixReplica.count_shift.Goals as goal

pub invariant_of-self : goal.invariant_of-self
unfolding matrix_state
invariant_of-self c = record {
  reached = after_call c.count_shift.result (shown_slots c.args.self.now.slots) (shown_slots c.count_shift.new.slots)
      c.args.self.now.reached
      (on_ok c.count_shift.result (λ h. subst IsReached (sym h)
      (shifted c.args.name.now c.args.term c.args.from c.args.to c.args.total (shown_slots c.args.self.now.slots)
      c.requires.more c.requires.counted c.args.self.now.reached)) c.count_shift.ensures.ok)
      c.count_shift.ensures.err;
}
