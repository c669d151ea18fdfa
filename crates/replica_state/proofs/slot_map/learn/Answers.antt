use Rattle.std.specs.Prelude.{OnOk}
use Rattle.std.proofs.Common.{◌≡◌, ap, sym, ◌∙◌, rules}
use Rattle.std.specs.Option.{option_map, option_copied}
use Rattle.stamp_register.specs.Keys.{key_value}
use Rattle.replica_state.specs.Points.{Held, held_after_learning}
use Rattle.replica_state.specs.Cells.{with_held}
use Rattle.replica_state.specs.Slots.{shown_slots, slot_held}
use Rattle.replica_state.proofs.Learned.{on_ok}
use Rattle.replica_state.proofs.Slots.{learned_is_something, none_told}
use Rattle.replica_state.proofs.StoredSlots.{held_is_nothing, writes}
use Rattle.replica_state.proofs.slot_map.learn.Goals as goal

pub returns-in-Some-clause-ok : goal.returns-in-Some-clause-ok
returns-in-Some-clause-ok c =
    let changed = c.in-Some.ensures.some in
    let called = changed.is_called in
    let met = called.met in
    let shows = called.shows in
    let leaves = called.leaves in
    let learnt : OnOk c.in-Some.learned (slot_held changed.after ≡ held_after_learning
    (option_map key_value (option_copied c.args.key)) c.args.count (slot_held changed.before)) = search rules in
    on_ok c.in-Some.learned (λ e. writes _ (shown_slots c.args.slots.now) (shown_slots c.change.new.slots)
    c.args.name.now c.in-Some.learned changed (λ h. held_after_learning
    (option_map key_value (option_copied c.args.key)) c.args.count h) e
    (learned_is_something _ c.args.count _ _ (none_told c.args.key) c.requires.kinds c.requires.something)) learnt

pub put-requires-clause-some : goal.put-requires-clause-some
put-requires-clause-some c = λ none. learned_is_something _ c.args.count _ _ (none_told c.args.key) c.requires.kinds
    c.requires.something (sym c.in_ok-learn.ensures.ok ∙ none)

pub returns-clause-ok : goal.returns-clause-ok
returns-clause-ok c = on_ok c.put.result (λ e. rw (c.in_default.ensures.unchanged, c.in_ok-copied.ensures) at e ∙
    ap (λ (h : Held). with_held c.args.name.now h (shown_slots c.args.slots.now))
    (c.in_ok-learn.ensures.ok ∙ ap (λ h. held_after_learning (option_map key_value (option_copied c.args.key))
    c.args.count h) (c.empty-new.ensures ∙ held_is_nothing (shown_slots c.args.slots.now) c.args.name.now
    c.in_default.ensures.none))) c.put.ensures.ok
