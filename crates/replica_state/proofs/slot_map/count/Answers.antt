use Rattle.std.specs.Prelude.{OnOk}
use Rattle.std.proofs.Common.{◌≡◌, rules}
use Rattle.replica_state.specs.Points.{held_after_count}
use Rattle.replica_state.specs.Slots.{shown_slots, slot_held}
use Rattle.replica_state.proofs.Learned.{on_ok}
use Rattle.replica_state.proofs.StoredSlots.{counted_is_something, writes}
use Rattle.replica_state.proofs.slot_map.count.Goals as goal

pub returns-in-Some-clause-ok : goal.returns-in-Some-clause-ok
returns-in-Some-clause-ok c =
    let changed = c.in-Some.ensures.some in
    let called = changed.is_called in
    let met = called.met in
    let shows = called.shows in
    let leaves = called.leaves in
    let wrote : OnOk c.in-Some.raised (slot_held changed.after ≡ held_after_count c.args.count
    (slot_held changed.before)) = search rules in
    on_ok c.in-Some.raised (λ e. writes _ (shown_slots c.args.slots.now) (shown_slots c.change.new.slots)
    c.args.name.now c.in-Some.raised changed (λ h. held_after_count c.args.count h) e
    (counted_is_something c.args.count _ c.requires)) wrote

pub returns-in-Some-clause-named : goal.returns-in-Some-clause-named
returns-in-Some-clause-named c = c.in-Some.ensures.some.is_stored.named
