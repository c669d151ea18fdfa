use Rattle.replica_state.specs.Slots.{slot_held}
use Rattle.replica_state.proofs.Learned.{on_ok, held_counted}
use Rattle.replica_state.proofs.slot.count.Goals as goal

pub returns-clause-ok : goal.returns-clause-ok
unfolding slot_held
returns-clause-ok c = on_ok c.raise.result (λ f. held_counted (slot_held c.args.slot.now) (slot_held c.raise.new.slot)
    c.args.count c.raise.ensures.key f) c.raise.ensures.ok
