use Rattle.std.proofs.Common.{sym, subst}
use Rattle.stamp_register.specs.Keys.{key_value}
use Rattle.replica_state.specs.Reached.{IsReached}
use Rattle.op_set.specs.Shown.{shown}
use Rattle.op_set.specs.SetOrder.{state_of}
use Rattle.replica_state.proofs.Learned.{on_ok}
use Rattle.replica_state.proofs.Reaching.{after_call, keyed}
use Rattle.op_set.proofs.set.OpSetReplica.set_key.Goals as goal

pub invariant_of-self : goal.invariant_of-self
unfolding state_of
invariant_of-self c = record {
  reached = after_call c.set_key.result (shown c.args.self.now.points) (shown c.set_key.new.self)
      c.args.self.now.reached
      (on_ok c.set_key.result (λ h. subst IsReached (sym h) (keyed c.args.name (key_value c.args.key)
      (shown c.args.self.now.points) c.requires.above c.args.self.now.reached)) c.set_key.ensures.ok)
      c.set_key.ensures.err;
}
