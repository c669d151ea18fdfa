use Rattle.std.proofs.Common.{◌≡◌, Some, ap, sym, ◌∙◌, rules}
use Rattle.std.proofs.lemmas.Int.{to_z-of_z}
use mir.Syntax.{w128}
use Rattle.counters.specs.Budgets.{Budget, rights}
use Rattle.replica_state.proofs.SlotLemmas.{budget_seen, rights_under, fresh_rights, for_setter, for_others}
use Rattle.replica_state.proofs.slot.rights.Goals as goal

pub returns-in-Some-get : goal.returns-in-Some-get
returns-in-Some-get c =
    let key = c.in-Some.field-0.now.0 in
    let budgets = c.in-Some.field-0.now.1 in
    let held : c.args.slot.now.parts.first ≡ Some (c.in-Some.field-0.now.0, c.in-Some.field-0.now.1) = search rules in
    to_z-of_z w128 c.rights.result (record { sfits = c.rights.type_inv }) ∙ c.rights.ensures
    ∙ ap (λ (b : Budget). rights b c.args.node) (budget_seen c.args.slot.now key budgets c.args.term key.node
    c.in-Some-count_of.count c.in-Some-get.budget.now held c.in-Some-get.ensures.value)
    ∙ rights_under c.args.slot.now key budgets c.args.term c.in-Some-count_of.count held c.in-Some-count_of.ensures
    c.args.node

pub returns-in-None : goal.returns-in-None
returns-in-None c =
    let key = c.in-Some.field-0.now.0 in
    let budgets = c.in-Some.field-0.now.1 in
    let held : c.args.slot.now.parts.first ≡ Some (c.in-Some.field-0.now.0, c.in-Some.field-0.now.1) = search rules in
    to_z-of_z w128 c.from.result (record { sfits = c.from.type_inv }) ∙ c.from.ensures ∙
    for_setter c.args.node key.node c.in-Some-count_of.count c.if-node-key.true
    ∙ sym (fresh_rights c.args.slot.now key budgets c.args.term c.in-Some-count_of.count held c.in-Some-count_of.ensures
    (sym c.in-None.ensures.value) c.args.node)
    ∙ rights_under c.args.slot.now key budgets c.args.term c.in-Some-count_of.count held c.in-Some-count_of.ensures
    c.args.node

pub returns-in-None-2 : goal.returns-in-None-2
returns-in-None-2 c =
    let key = c.in-Some.field-0.now.0 in
    let budgets = c.in-Some.field-0.now.1 in
    let held : c.args.slot.now.parts.first ≡ Some (c.in-Some.field-0.now.0, c.in-Some.field-0.now.1) = search rules in
    for_others c.args.node key.node c.in-Some-count_of.count c.if-node-key.false
    ∙ sym (fresh_rights c.args.slot.now key budgets c.args.term c.in-Some-count_of.count held c.in-Some-count_of.ensures
    (sym c.in-None.ensures.value) c.args.node)
    ∙ rights_under c.args.slot.now key budgets c.args.term c.in-Some-count_of.count held c.in-Some-count_of.ensures
    c.args.node
