use Rattle.std.proofs.Common.{sym, subst}
use Rattle.replica_state.specs.Reached.{IsReached}
use Rattle.op_set.specs.Shown.{shown}
use Rattle.op_set.specs.SetOrder.{state_of}
use Rattle.replica_state.proofs.Learned.{on_ok}
use Rattle.replica_state.proofs.Reaching.{after_call, shifted}
use Rattle.op_set.proofs.set.OpSetReplica.count_shift.Goals as goal

pub invariant_of-self : goal.invariant_of-self
unfolding state_of
invariant_of-self c = record {
  reached = after_call c.count_shift.result (shown c.args.self.now.points) (shown c.count_shift.new.self)
      c.args.self.now.reached
      (on_ok c.count_shift.result (λ h. subst IsReached (sym h)
      (shifted c.args.name.now c.args.term c.args.from c.args.to c.args.total (shown c.args.self.now.points)
      c.requires.more c.requires.counted c.args.self.now.reached)) c.count_shift.ensures.ok)
      c.count_shift.ensures.err;
}
