use Rattle.std.proofs.Common.{◌+◌, sym, ◌∙◌, ap}
use Rattle.actions.specs.Value.{term_value}
use Rattle.stamp_register.specs.Keys.{key_value}
use Rattle.operations.specs.Operations.{count_in}
use Rattle.node_steps.specs.Replicas.{state_in}
use Rattle.node_steps.proofs.GrantRefusals.{not_set, no_such_term, not_counted, zero_amount, cell_full, no_refusal}
use Rattle.node_steps.proofs.Rights.{counted_budget}
use Rattle.node_steps.proofs.ShiftRefusals.{past_most, upto_most, some, no_sum}
use Rattle.node_steps.proofs.grant.granted_with.Goals as goal

pub returns-in_default-clause-refused : goal.returns-in_default-clause-refused
returns-in_default-clause-refused c = not_set c.args.config (state_in c.args.state.now) c.args.name.now c.args.term
    c.args.amount c.in_default.ensures.value

pub returns-in_default-term-clause-refused : goal.returns-in_default-term-clause-refused
returns-in_default-term-clause-refused c =
    no_such_term c.args.config (state_in c.args.state.now) c.args.name.now c.args.term c.args.amount
    (key_value c.in-Some.field-0-0.now) c.in-Some.actions.now
    c.in-Some.ensures.value c.in_default-term.ensures

pub returns-in_default-count-clause-refused : goal.returns-in_default-count-clause-refused
returns-in_default-count-clause-refused c =
    not_counted c.args.config (state_in c.args.state.now) c.args.name.now c.args.term c.args.amount
    (key_value c.in-Some.field-0-0.now) c.in-Some.actions.now
    c.in-Some.ensures.value (term_value c.in-Some-term.found.now) (sym c.in-Some-term.ensures) c.in_default-count.is

pub returns-then-amount-eq0-clause-refused : goal.returns-then-amount-eq0-clause-refused
returns-then-amount-eq0-clause-refused c =
    zero_amount c.args.config (state_in c.args.state.now) c.args.name.now c.args.term c.args.amount
    (key_value c.in-Some.field-0-0.now) c.in-Some.actions.now
    c.in-Some.ensures.value (term_value c.in-Some-term.found.now) (sym c.in-Some-term.ensures) c.in-Some-count.field-0
    c.in-Some-count.is c.if-amount-eq0.true

pub returns-in-Some-checked_add-clause-ok : goal.returns-in-Some-checked_add-clause-ok
returns-in-Some-checked_add-clause-ok c =
    let sum = c.in-Some-checked_add.ensures in (
      no_refusal c.args.config (state_in c.args.state.now) c.args.name.now c.args.term c.args.amount
          (key_value c.in-Some.field-0-0.now) c.in-Some.actions.now
          c.in-Some.ensures.value (term_value c.in-Some-term.found.now) (sym c.in-Some-term.ensures)
          c.in-Some-count.field-0 c.in-Some-count.is (some c.args.amount c.if-amount-eq0.false)
          (upto_most _ _ (ap (λ m. m + c.args.amount) c.granted.ensures) sum.0),
      sum.1 ∙ ap (λ m. m + c.args.amount) c.granted.ensures,
    )

pub returns-in-Some-checked_add-clause-counted : goal.returns-in-Some-checked_add-clause-counted
returns-in-Some-checked_add-clause-counted c =
    counted_budget (state_in c.args.state.now) c.args.name.now (key_value c.in-Some.field-0-0.now) c.in-Some.actions.now
    c.args.term c.in-Some-count.field-0
    c.in-Some.ensures.value (ap count_in (sym c.in-Some-term.ensures) ∙ c.in-Some-count.is)

pub returns-in-None-clause-refused : goal.returns-in-None-clause-refused
returns-in-None-clause-refused c =
    cell_full c.args.config (state_in c.args.state.now) c.args.name.now c.args.term c.args.amount
    (key_value c.in-Some.field-0-0.now) c.in-Some.actions.now
    c.in-Some.ensures.value (term_value c.in-Some-term.found.now) (sym c.in-Some-term.ensures) c.in-Some-count.field-0
    c.in-Some-count.is (some c.args.amount c.if-amount-eq0.false)
    (past_most _ _ (ap (λ m. m + c.args.amount) c.granted.ensures)
    (no_sum c.checked_add.result _ _ c.in-None.is c.checked_add.ensures))
