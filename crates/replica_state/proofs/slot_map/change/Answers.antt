use Rattle.std.specs.Fn.{FnOnceReturnsAtMut}
use Rattle.replica_state.proofs.StoredSlots.{slot_is, change_is, unfound}
use Rattle.replica_state.proofs.slot_map.change.Goals as goal

pub change-changed-requires : goal.change-changed-requires
change-changed-requires g c = λ slot found. c.requires slot (slot_is c.args.slots.now c.args.name.now slot.now
    c.note_is_map.ensures found)

pub returns-clause-some : goal.returns-clause-some
returns-clause-some g c = change_is (FnOnceReturnsAtMut g.F.FnOnce c.args.call) c.args.slots.now
    c.change-changed.new.self c.args.name.now c.change-changed.result c.note_is_map.ensures c.note_is_map-2.ensures
    c.change-changed.ensures.changed

pub returns-clause-none : goal.returns-clause-none
returns-clause-none g c = unfound c.change-changed.result c.args.slots.now c.args.name.now c.note_is_map.ensures
    c.change-changed.ensures.found.1
