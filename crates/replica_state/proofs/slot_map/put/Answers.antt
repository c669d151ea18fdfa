use Rattle.replica_state.proofs.StoredSlots.{added_slot}
use Rattle.replica_state.proofs.slot_map.put.Goals as goal

pub returns-clause-ok : goal.returns-clause-ok
returns-clause-ok c = added_slot c.args.slots.now c.raise.new.self c.args.name c.args.slot c.note_is_map.ensures
    c.note_is_map-2.ensures c.requires.new c.requires.some c.in_ok-raise.ensures.ok
