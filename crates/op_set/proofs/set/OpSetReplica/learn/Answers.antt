use Rattle.std.proofs.Common.{◌∙◌}
use Rattle.stamp_register.specs.Keys.{key_value}
use Rattle.op_set.specs.Shown.{shown}
use Rattle.operations.specs.Counts.{operation_told}
use Rattle.op_set.specs.SetOrder.{state_of}
use Rattle.replica_state.proofs.Learned.{on_ok}
use Rattle.replica_state.proofs.Added.{added_told}
use Rattle.replica_state.proofs.Reaching.{after_call, learned}
use Rattle.op_set.proofs.set.OpSetReplica.learn.Goals as goal

pub invariant_of-self : goal.invariant_of-self
invariant_of-self c = record {
  reached = after_call c.learn.result (shown c.args.self.now.points) (shown c.learn.new.self) c.args.self.now.reached
      (on_ok c.learn.result (λ h. learned (shown c.args.self.now.points) (shown c.learn.new.self)
      (operation_told c.args.name.now (key_value c.args.key.now) c.args.count) c.requires
      (λ ops e. h ∙ added_told (shown c.args.self.now.points) c.args.name.now (key_value c.args.key.now) c.args.count _
      c.key_with.ensures c.requires ops e) c.args.self.now.reached) c.learn.ensures.ok)
      c.learn.ensures.err;
}

pub returns-clause-ok : goal.returns-clause-ok
unfolding state_of shown
returns-clause-ok c = on_ok c.learn.result (λ h ops e. h ∙ added_told (shown c.args.self.now.points) c.args.name.now
    (key_value c.args.key.now) c.args.count _ c.key_with.ensures c.requires ops e) c.learn.ensures.ok
