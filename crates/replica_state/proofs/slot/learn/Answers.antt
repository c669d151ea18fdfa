use Rattle.std.proofs.Common.{◌≡◌, Some, ap, subst, sym, ◌∙◌}
use Rattle.std.specs.Prelude.{IfSome, is_none}
use Rattle.std.specs.Option.{option_map, option_copied}
use Rattle.stamp_register.specs.Keys.{key_value}
use Rattle.operations.specs.Counts.{is_hits}
use Rattle.replica_state.specs.Slots.{slot_held}
use Rattle.replica_state.proofs.Learned.{on_ok, held_none, held_less, held_equal, held_greater}
use Rattle.replica_state.proofs.SlotLemmas.{replaced}
use Rattle.replica_state.proofs.slot.learn.Goals as goal

pub returns-in_default-clause-ok : goal.returns-in_default-clause-ok
unfolding slot_held
returns-in_default-clause-ok c = on_ok c.raise_if_any.result
    (held_none (slot_held c.args.slot.now) (slot_held c.raise_if_any.new.slot) _ c.args.count
    (ap (λ k. option_map key_value (option_copied k)) c.in_default.is) c.raise_if_any.ensures.key)
    c.raise_if_any.ensures.ok

pub returns-in-Less-clause-ok : goal.returns-in-Less-clause-ok
unfolding slot_held
returns-in-Less-clause-ok c = held_less (slot_held c.args.slot.now) (slot_held c.args.slot.now) _ c.args.count
    (key_value c.in-Some.key.now) (ap (λ k. option_map key_value (option_copied k)) c.in-Some.is)
    (sym c.in-Less.ensures)

pub returns-in-Equal-clause-ok : goal.returns-in-Equal-clause-ok
unfolding slot_held
returns-in-Equal-clause-ok c = on_ok c.raise_if_any-in-Equal.result
    (held_equal (slot_held c.args.slot.now) (slot_held c.raise_if_any-in-Equal.new.slot) _ c.args.count
    (key_value c.in-Some.key.now) (ap (λ k. option_map key_value (option_copied k)) c.in-Some.is)
    (sym c.in-Equal.ensures) c.raise_if_any-in-Equal.ensures.key) c.raise_if_any-in-Equal.ensures.ok

pub returns-in_ok-copied-in-Greater-clause-ok : goal.returns-in_ok-copied-in-Greater-clause-ok
unfolding slot_held
returns-in_ok-copied-in-Greater-clause-ok c =
    let copy = c.in_ok-copied-in-Greater.ensures in
    ap (λ f. slot_held (record { parts = record { first = f; second = c.args.slot.now.parts.second } })) c.of.ensures
    ∙ held_greater (slot_held c.args.slot.now) (slot_held (record {
      parts = record {
        first = Some (c.in_ok-copied-in-Greater.field-0, c.in_ok-budgets-in-Greater.budgets);
        second = c.args.slot.now.parts.second;
      };
    })) _ c.args.count (key_value c.in-Some.key.now)
    (ap (λ k. option_map key_value (option_copied k)) c.in-Some.is) (sym c.in-Greater.ensures)
    (ap (λ k. Some k) copy) (replaced c.args.slot.now c.in_ok-copied-in-Greater.field-0
    c.in_ok-budgets-in-Greater.budgets c.args.count (subst
    (λ k. IfSome c.args.count (λ x. is_hits x.counted ≡ is_none k)) c.in-Some.is c.requires)
    c.in_ok-budgets-in-Greater.ensures)
