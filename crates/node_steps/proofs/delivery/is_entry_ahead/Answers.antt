use Rattle.std.proofs.Common.{sym, ◌∙◌, refl, ap, true, false}
use Rattle.std.specs.List.{list_any}
use Rattle.node_steps.specs.Replicas.{state_in, point_held}
use Rattle.message_format.specs.Messages.{entry_value}
use Rattle.node_steps.proofs.Ahead.{ahead_is}
use Rattle.node_steps.proofs.delivery.is_entry_ahead.Goals as goal

pub returns-then-is_key_ahead : goal.returns-then-is_key_ahead
returns-then-is_key_ahead c =
    ahead_is c.args.me (state_in c.args.state.now) (entry_value c.args.entry.now) (point_held c.point-held.result)
    c.point-held.ensures c.order_to_held-order.result c.order_to_held-order.ensures
    true _ _ _ _ (sym c.if-is_key_ahead.true ∙ c.is_key_ahead.ensures) refl refl refl refl

pub returns-then-are_hits_ahead : goal.returns-then-are_hits_ahead
returns-then-are_hits_ahead c =
    ahead_is c.args.me (state_in c.args.state.now) (entry_value c.args.entry.now) (point_held c.point-held.result)
    c.point-held.ensures c.order_to_held-order.result c.order_to_held-order.ensures
    false true _ _ _ (sym c.if-is_key_ahead.false ∙ c.is_key_ahead.ensures)
    (sym c.if-are_hits_ahead.true ∙ c.are_hits_ahead.ensures ∙ ap (list_any _) c.deref.ensures.value) refl refl refl

pub returns-then-are_execs_ahead : goal.returns-then-are_execs_ahead
returns-then-are_execs_ahead c =
    ahead_is c.args.me (state_in c.args.state.now) (entry_value c.args.entry.now) (point_held c.point-held.result)
    c.point-held.ensures c.order_to_held-order.result c.order_to_held-order.ensures
    false false true _ _ (sym c.if-is_key_ahead.false ∙ c.is_key_ahead.ensures)
    (sym c.if-are_hits_ahead.false ∙ c.are_hits_ahead.ensures ∙ ap (list_any _) c.deref.ensures.value)
    (sym c.if-are_execs_ahead.true ∙ c.are_execs_ahead.ensures ∙ ap (list_any _) c.deref-2.ensures.value) refl refl

pub returns-then-are_shifts_ahead : goal.returns-then-are_shifts_ahead
returns-then-are_shifts_ahead c =
    ahead_is c.args.me (state_in c.args.state.now) (entry_value c.args.entry.now) (point_held c.point-held.result)
    c.point-held.ensures c.order_to_held-order.result c.order_to_held-order.ensures
    false false false true _ (sym c.if-is_key_ahead.false ∙ c.is_key_ahead.ensures)
    (sym c.if-are_hits_ahead.false ∙ c.are_hits_ahead.ensures ∙ ap (list_any _) c.deref.ensures.value)
    (sym c.if-are_execs_ahead.false ∙ c.are_execs_ahead.ensures ∙ ap (list_any _) c.deref-2.ensures.value)
    (sym c.if-are_shifts_ahead.true ∙ c.are_shifts_ahead.ensures ∙ ap (list_any _) c.deref-3.ensures.value) refl

pub returns : goal.returns
returns c =
    ahead_is c.args.me (state_in c.args.state.now) (entry_value c.args.entry.now) (point_held c.point-held.result)
    c.point-held.ensures c.order_to_held-order.result c.order_to_held-order.ensures
    false false false false c.are_grants_ahead.result (sym c.if-is_key_ahead.false ∙ c.is_key_ahead.ensures)
    (sym c.if-are_hits_ahead.false ∙ c.are_hits_ahead.ensures ∙ ap (list_any _) c.deref.ensures.value)
    (sym c.if-are_execs_ahead.false ∙ c.are_execs_ahead.ensures ∙ ap (list_any _) c.deref-2.ensures.value)
    (sym c.if-are_shifts_ahead.false ∙ c.are_shifts_ahead.ensures ∙ ap (list_any _) c.deref-3.ensures.value)
    (c.are_grants_ahead.ensures ∙ ap (list_any _) c.deref-4.ensures.value)
