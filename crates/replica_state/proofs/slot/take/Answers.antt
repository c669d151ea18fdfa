use Rattle.replica_state.proofs.SlotLemmas.{taken_held}
use Rattle.replica_state.proofs.slot.take.Goals as goal

pub returns : goal.returns
returns c = taken_held c.args.slot.now c.args.key _ _ c.of.ensures c.new.ensures
