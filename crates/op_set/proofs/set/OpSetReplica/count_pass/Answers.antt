use Rattle.std.proofs.Common.{sym, subst}
use Rattle.replica_state.specs.Reached.{IsReached}
use Rattle.op_set.specs.Shown.{shown}
use Rattle.op_set.specs.SetOrder.{state_of}
use Rattle.replica_state.proofs.Learned.{on_ok}
use Rattle.replica_state.proofs.Reaching.{after_call, passed}
use Rattle.op_set.proofs.set.OpSetReplica.count_pass.Goals as goal

pub invariant_of-self : goal.invariant_of-self
unfolding state_of
invariant_of-self c = record {
  reached = after_call c.count_pass.result (shown c.args.self.now.points) (shown c.count_pass.new.self)
      c.args.self.now.reached
      (on_ok c.count_pass.result (λ h. subst IsReached (sym h)
      (passed c.args.name.now c.args.node c.args.spent (shown c.args.self.now.points) c.requires.set
      c.requires.counted c.args.self.now.reached)) c.count_pass.ensures.ok)
      c.count_pass.ensures.err;
}
