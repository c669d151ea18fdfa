use Rattle.std.proofs.Common.{◌∙◌, Some, subst}
use Rattle.operations.specs.Operations.{IsWellFormed}
use Rattle.operations.specs.Counts.{operation_told}
use Rattle.replica_state.specs.Slots.{shown_slots}
use Rattle.replica_state.specs.MatrixStates.{matrix_state}
use Rattle.replica_state.proofs.Learned.{on_ok}
use Rattle.replica_state.proofs.Added.{added_count, one_key}
use Rattle.replica_state.proofs.Reaching.{after_call, learned}
use Rattle.replica_state.proofs.matrix.MatrixReplica.learn_count.Goals as goal

pub invariant_of-self : goal.invariant_of-self
unfolding matrix_state
invariant_of-self c =
    let key = c.requires.0 in
    record {
      reached = after_call c.count.result (shown_slots c.args.self.now.slots) (shown_slots c.count.new.slots)
          c.args.self.now.reached
          (on_ok c.count.result (λ h. learned (shown_slots c.args.self.now.slots) (shown_slots c.count.new.slots)
          (operation_told c.args.name.now key (Some c.args.count)) c.requires.2
          (λ ops e. h ∙ added_count (shown_slots c.args.self.now.slots) c.args.name.now key c.args.count c.requires.1
          c.requires.2 ops e) c.args.self.now.reached) c.count.ensures.ok)
          c.count.ensures.err;
    }

pub returns-clause-ok : goal.returns-clause-ok
unfolding matrix_state
returns-clause-ok c = on_ok c.count.result (λ h key here ops e. h ∙
    added_count (shown_slots c.args.self.now.slots) c.args.name.now key c.args.count here
    (subst (λ k. IsWellFormed (operation_told c.args.name.now k (Some c.args.count)))
    (one_key c.requires.0 key c.requires.1 here) c.requires.2) ops e) c.count.ensures.ok
