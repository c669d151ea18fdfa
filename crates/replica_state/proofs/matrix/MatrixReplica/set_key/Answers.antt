use Rattle.std.proofs.Common.{sym, subst}
use Rattle.stamp_register.specs.Keys.{key_value}
use Rattle.replica_state.specs.Reached.{IsReached}
use Rattle.replica_state.specs.Slots.{shown_slots}
use Rattle.replica_state.specs.MatrixStates.{matrix_state}
use Rattle.replica_state.proofs.Learned.{on_ok}
use Rattle.replica_state.proofs.Reaching.{after_call, keyed}
use Rattle.replica_state.proofs.matrix.MatrixReplica.set_key.Goals as goal

pub invariant_of-self : goal.invariant_of-self
unfolding matrix_state
invariant_of-self c = record {
  reached = after_call c.set_key.result (shown_slots c.args.self.now.slots) (shown_slots c.set_key.new.slots)
      c.args.self.now.reached
      (on_ok c.set_key.result (λ h. subst IsReached (sym h) (keyed c.args.name (key_value c.args.key)
      (shown_slots c.args.self.now.slots) c.requires.above c.args.self.now.reached)) c.set_key.ensures.ok)
      c.set_key.ensures.err;
}
