use Rattle.std.proofs.Common.{Some, ap, ◌∙◌, sym}
use Rattle.replica_state.specs.Slots.{budgets_number}
use Rattle.replica_state.specs.Points.{raised_numbers}
use Rattle.replica_state.proofs.SlotLemmas.{none_counted, raised_on}
use Rattle.replica_state.proofs.slot.budgets_with.Goals as goal

pub returns-in_default : goal.returns-in_default
returns-in_default c = λ d. ap (λ b. budgets_number b d) c.new-budgets.ensures ∙ none_counted d ∙
    sym (ap (λ o. raised_numbers o (λ _. 0) d) c.in_default.is)

pub returns : goal.returns
returns c = λ d.
    c.in_ok-raise_term.ensures.ok d
    ∙ raised_on (Some c.in-Some.count) _ (λ _. 0) (λ x. ap (λ b. budgets_number b x) c.new-budgets.ensures ∙
    none_counted x) d
    ∙ sym (ap (λ o. raised_numbers o (λ _. 0) d) c.in-Some.is)
