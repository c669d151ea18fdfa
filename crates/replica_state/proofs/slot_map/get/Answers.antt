use Rattle.replica_state.proofs.StoredSlots.{slot_found, slot_missing}
use Rattle.replica_state.proofs.slot_map.get.Goals as goal

pub returns-clause-some : goal.returns-clause-some
returns-clause-some c = slot_found c.get.result c.args.slots.now c.args.name.now c.note_is_map.ensures
    c.get.ensures.value

pub returns-clause-none : goal.returns-clause-none
returns-clause-none c = slot_missing c.get.result c.args.slots.now c.args.name.now c.note_is_map.ensures
    c.get.ensures.value
