use Rattle.std.specs.Prelude.{OnOk}
use Rattle.std.proofs.Common.{◌≡◌, ◌+◌, ◌<◌, ◌^◌, subst, sym, ◌∙◌, rules}
use Rattle.std.specs.Option.{IsSome}
use Rattle.std.proofs.lemmas.Option.{IfSome_then}
use Rattle.operations.specs.declared.counted.Counted.TheVariants.{Hits, Execs}
use Rattle.replica_state.specs.Points.{held_after_pass}
use Rattle.replica_state.specs.Slots.{shown_slots, slot_held}
use Rattle.replica_state.proofs.Learned.{on_ok}
use Rattle.replica_state.proofs.Shown.{pass_seen}
use Rattle.replica_state.proofs.StoredSlots.{passed_is_something, writes}
use Rattle.replica_state.proofs.slot_map.count_pass.Goals as goal

pub change-requires : goal.change-requires
change-requires c = λ slot is. (
  subst (λ o. IsSome o) (sym is.key) c.requires.set,
  (
    subst (λ n. n + 1 < 2 ^ 64) (sym (is.number (Hits c.args.node))) c.requires.hits,
    IfSome_then c.args.spent c.requires.execs (λ term. subst (λ n. n + 1 < 2 ^ 64)
        (sym (is.number (Execs term c.args.node)))),
  ),
)

pub returns-in-Some-clause-ok : goal.returns-in-Some-clause-ok
returns-in-Some-clause-ok c =
    let changed = c.in-Some.ensures.some in
    let called = changed.is_called in
    let met = called.met in
    let shows = called.shows in
    let leaves = called.leaves in
    let wrote : OnOk c.in-Some.passed (slot_held changed.after ≡ held_after_pass c.args.node c.args.spent
    (slot_held changed.before)) = search rules in
    on_ok c.in-Some.passed (λ e. writes _ (shown_slots c.args.slots.now) (shown_slots c.change.new.slots)
    c.args.name.now c.in-Some.passed changed (λ h. held_after_pass c.args.node c.args.spent h) e
    (passed_is_something c.args.node c.args.spent _ c.requires.set)
    ∙ pass_seen c.args.name.now c.args.node c.args.spent (shown_slots c.args.slots.now) changed.is_stored.named) wrote
