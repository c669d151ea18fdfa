use Rattle.replica_state.proofs.slot_map.fn.set_key.take.Goals as goal

pub returns : goal.returns
returns c = c.take.ensures
