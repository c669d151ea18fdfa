use Rattle.std.proofs.Common.{List, sym, ◌∙◌, ap}
use Rattle.std.specs.declared.cmp.Ordering.{Ordering}
use Rattle.actions.specs.Value.{TermValue}
use Rattle.replica_state.specs.Points.{Held}
use Rattle.node_steps.specs.Replicas.{point_held}
use Rattle.node_steps.specs.Received.{are_overspent, is_held_overspent, terms_both}
use Rattle.node_steps.proofs.delivery.is_name_overspent.Goals as goal

pub returns-in-Some : goal.returns-in-Some
returns-in-Some c =
    let held : Held = point_held c.point-held.result in
    let received : Held = point_held c.point-received.result in
    c.is_term_overspent.ensures
    ∙ ap (λ (terms : List TermValue). are_overspent c.args.nodes c.key_order-order.result held received terms)
    (sym c.in-Some.ensures)
    ∙ ap (λ (order : Ordering). are_overspent c.args.nodes order held received (terms_both order held received))
    c.key_order-order.ensures
    ∙ (λ i. is_held_overspent c.args.nodes (c.point-held.ensures i) (c.point-received.ensures i))
