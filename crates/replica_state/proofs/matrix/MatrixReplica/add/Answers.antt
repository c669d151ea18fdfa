use Rattle.std.proofs.Common.{◌∙◌}
use Rattle.operations.specs.Operations.{operation}
use Rattle.replica_state.specs.Slots.{shown_slots}
use Rattle.replica_state.specs.MatrixStates.{matrix_state}
use Rattle.replica_state.proofs.Learned.{on_ok}
use Rattle.replica_state.proofs.Added.{added_parts}
use Rattle.replica_state.proofs.Reaching.{after_call, learned}
use Rattle.replica_state.proofs.matrix.MatrixReplica.add.Goals as goal

pub invariant_of-self : goal.invariant_of-self
invariant_of-self c = record {
  reached = after_call c.learn.result (shown_slots c.args.self.now.slots) (shown_slots c.learn.new.slots)
      c.args.self.now.reached
      (on_ok c.learn.result (λ h. learned (shown_slots c.args.self.now.slots) (shown_slots c.learn.new.slots)
      (operation c.args.op.now) c.requires.formed
      (λ ops e. h ∙ added_parts (shown_slots c.args.self.now.slots) (operation c.args.op.now) _ _ _ c.name.ensures
      c.key.ensures c.count.ensures c.requires.formed ops e) c.args.self.now.reached) c.learn.ensures.ok)
      c.learn.ensures.err;
}

pub returns-clause-ok : goal.returns-clause-ok
unfolding matrix_state
returns-clause-ok c = on_ok c.learn.result (λ h ops e. h ∙ added_parts (shown_slots c.args.self.now.slots)
    (operation c.args.op.now) _ _ _ c.name.ensures c.key.ensures c.count.ensures c.requires.formed ops e)
    c.learn.ensures.ok
