use Rattle.std.proofs.Common.{◌∙◌}
use Rattle.operations.specs.Operations.{operation}
use Rattle.op_set.specs.Shown.{shown}
use Rattle.op_set.specs.SetOrder.{state_of}
use Rattle.replica_state.proofs.Learned.{on_ok}
use Rattle.replica_state.proofs.Added.{added_parts}
use Rattle.replica_state.proofs.Reaching.{after_call, learned}
use Rattle.op_set.proofs.set.OpSetReplica.add.Goals as goal

pub invariant_of-self : goal.invariant_of-self
invariant_of-self c = record {
  reached = after_call c.learn.result (shown c.args.self.now.points) (shown c.learn.new.self) c.args.self.now.reached
      (on_ok c.learn.result (λ h. learned (shown c.args.self.now.points) (shown c.learn.new.self)
      (operation c.args.op.now) c.requires.formed
      (λ ops e. h ∙ added_parts (shown c.args.self.now.points) (operation c.args.op.now) _ _ _ c.name.ensures
      c.key.ensures c.count.ensures c.requires.formed ops e) c.args.self.now.reached) c.learn.ensures.ok)
      c.learn.ensures.err;
}

pub returns-clause-ok : goal.returns-clause-ok
unfolding state_of shown
returns-clause-ok c = on_ok c.learn.result (λ h ops e. h ∙ added_parts (shown c.args.self.now.points)
    (operation c.args.op.now) _ _ _ c.name.ensures c.key.ensures c.count.ensures c.requires.formed ops e)
    c.learn.ensures.ok
