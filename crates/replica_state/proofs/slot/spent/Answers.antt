use Rattle.std.proofs.Common.{◌≡◌, Some, ap, sym, ◌∙◌, rules}
use Rattle.counters.specs.Budgets.{Budget, total_spent}
use Rattle.replica_state.proofs.SlotLemmas.{budget_seen, spent_under, fresh_spent}
use Rattle.replica_state.proofs.slot.spent.Goals as goal

pub returns-in-Some-get : goal.returns-in-Some-get
returns-in-Some-get c =
    let key = c.in-Some.field-0.now.0 in
    let budgets = c.in-Some.field-0.now.1 in
    let held : c.args.slot.now.parts.first ≡ Some (c.in-Some.field-0.now.0, c.in-Some.field-0.now.1) = search rules in
    c.total_spent.ensures
    ∙ ap (λ (b : Budget). total_spent b) (budget_seen c.args.slot.now key budgets c.args.term key.node
    c.in-Some-count_of.field-0 c.in-Some-get.budget.now held c.in-Some-get.ensures.value)
    ∙ spent_under c.args.slot.now key budgets c.args.term c.in-Some-count_of.field-0 held c.in-Some-count_of.ensures

pub returns-in-None : goal.returns-in-None
returns-in-None c =
    let key = c.in-Some.field-0.now.0 in
    let budgets = c.in-Some.field-0.now.1 in
    let held : c.args.slot.now.parts.first ≡ Some (c.in-Some.field-0.now.0, c.in-Some.field-0.now.1) = search rules in
    sym (fresh_spent c.args.slot.now key budgets c.args.term c.in-Some-count_of.field-0 held c.in-Some-count_of.ensures
    (sym c.in-None.ensures.value))
    ∙ spent_under c.args.slot.now key budgets c.args.term c.in-Some-count_of.field-0 held c.in-Some-count_of.ensures
