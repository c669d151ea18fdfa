use Rattle.replica_state.proofs.SlotLemmas.{nothing_held}
use Rattle.replica_state.proofs.slot.empty.Goals as goal

pub returns : goal.returns
returns c = nothing_held _ _ c.nothing.ensures c.new.ensures
