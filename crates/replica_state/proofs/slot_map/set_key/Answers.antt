use Rattle.std.proofs.Common.{◌≡◌, ap, sym, ◌∙◌, rules}
use Rattle.stamp_register.specs.Keys.{key_value}
use Rattle.replica_state.specs.Points.{Held, held_after_key}
use Rattle.replica_state.specs.Cells.{with_held}
use Rattle.replica_state.specs.Slots.{shown_slots, slot_held}
use Rattle.replica_state.proofs.Learned.{on_ok}
use Rattle.replica_state.proofs.Shown.{took}
use Rattle.replica_state.proofs.StoredSlots.{by_change, none_by_test, held_is_nothing, taken_is_something, writes}
use Rattle.replica_state.proofs.slot_map.set_key.Goals as goal

pub returns-then-is_some-clause-ok : goal.returns-then-is_some-clause-ok
returns-then-is_some-clause-ok c = by_change (shown_slots c.args.slots.now) c.args.name c.get.result c.change.result
    (sym c.is_some.ensures ∙ c.if-is_some.true) c.get.ensures.some c.change.ensures.none (λ answer changed.
    let called = changed.is_called in
    let met = called.met in
    let shows = called.shows in
    let leaves = called.leaves in
    let took_here : slot_held changed.after ≡ held_after_key (key_value c.args.key) (slot_held changed.before) =
    search rules in
    writes _ (shown_slots c.args.slots.now) (shown_slots c.change.new.slots) c.args.name answer changed
    (λ h. held_after_key (key_value c.args.key) h) took_here (taken_is_something (key_value c.args.key) _)
    ∙ took c.args.name (key_value c.args.key) (shown_slots c.args.slots.now)) c.change.ensures.some

pub put-requires-clause-some : goal.put-requires-clause-some
put-requires-clause-some c = λ none. taken_is_something (key_value c.args.key) _ (sym c.take.ensures ∙ none)

pub returns-clause-ok : goal.returns-clause-ok
returns-clause-ok c =
    let none = none_by_test c.get.result (sym c.is_some.ensures ∙ c.if-is_some.false) c.get.ensures.none in
    on_ok c.put.result (λ e. e ∙ ap (λ (h : Held). with_held c.args.name h (shown_slots c.args.slots.now))
    (c.take.ensures ∙ ap (λ h. held_after_key (key_value c.args.key) h)
    (c.empty-new.ensures ∙ held_is_nothing (shown_slots c.args.slots.now) c.args.name none))
    ∙ took c.args.name (key_value c.args.key) (shown_slots c.args.slots.now)) c.put.ensures.ok
