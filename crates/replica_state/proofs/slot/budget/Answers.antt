use Rattle.std.proofs.Common.{◌≡◌, Some, rules}
use Rattle.replica_state.proofs.SlotLemmas.{if_none, no_number}
use Rattle.replica_state.proofs.slot.budget.Goals as goal

pub returns-clause-none : goal.returns-clause-none
returns-clause-none c =
    let held : c.args.slot.now.parts.first ≡ Some (c.in_ok-budgets.field-0.now.0, c.in_ok-budgets.field-0.now.1) =
    search rules in
    if_none (λ b. b.now) c.get.result _ _ c.get.ensures.value
    (λ none. no_number c.args.slot.now c.in_ok-budgets.field-0.now.0 c.in_ok-budgets.field-0.now.1 c.args.term held
    none)
