use Rattle.std.proofs.Common.{◌≡◌, Some, ap, ◌∙◌, rules}
use Rattle.counters.specs.Budgets.{Budget, rights}
use Rattle.replica_state.proofs.SlotLemmas.{budget_seen, rights_under}
use Rattle.replica_state.proofs.slot.counted_budget.Goals as goal

pub returns : goal.returns
returns c = λ node.
    let slot = c.args.slot.now in
    let key = c.in_ok-key.field-0.now.0 in
    let budgets = c.in_ok-key.field-0.now.1 in
    let count = c.in_ok-count.count in
    let held : slot.parts.first ≡ Some (c.in_ok-key.field-0.now.0, c.in_ok-key.field-0.now.1) = search rules in
    ap (λ (b : Budget). rights b node) (budget_seen slot key budgets c.args.term key.node count
    c.in_ok-budget.budget.now held c.in_ok-budget.ensures.value)
    ∙ rights_under slot key budgets c.args.term count held c.in_ok-count.ensures node
