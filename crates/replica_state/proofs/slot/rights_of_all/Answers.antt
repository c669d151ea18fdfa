use Rattle.std.proofs.Common.{◌≡◌, Some, ap, length, replicate, pos, rules, sym, ◌∙◌}
use Rattle.stamp_register.specs.Keys.{key_value}
use Rattle.counters.specs.Budgets.{Budget, rights}
use Rattle.counters.specs.Cells.{budget_of}
use Rattle.replica_state.specs.Slots.{slot_rights}
use Rattle.replica_state.proofs.Columns.{all_alike, map_same, rights_without_key}
use Rattle.replica_state.proofs.Marks.{no_slot_rights}
use Rattle.replica_state.proofs.SlotLemmas.{budget_seen, rights_under, fresh_rights}
use Rattle.replica_state.proofs.slot.rights_of_all.Goals as goal

pub returns-in_default : goal.returns-in_default
returns-in_default c =
    let zeros : c.fill.new.self ≡ replicate (length c.args.into.now) (pos 0) = search rules in
    zeros ∙ all_alike (slot_rights c.args.slot.now c.args.term) (pos 0) (length c.args.into.now)
    (λ node. rights_without_key c.args.slot.now c.args.term node (search rules))

pub returns-in_default-count_of : goal.returns-in_default-count_of
returns-in_default-count_of c =
    let key = c.in-Some.field-0.now.0 in
    let zeros : c.fill-in_default-count_of.new.self ≡ replicate (length c.args.into.now) (pos 0) = search rules in
    zeros ∙ all_alike (slot_rights c.args.slot.now c.args.term) (pos 0) (length c.args.into.now)
    (λ node. no_slot_rights c.args.slot.now (key_value key) c.args.term node (search rules)
    (sym c.in_default-count_of.ensures))

pub returns-in-Some-get : goal.returns-in-Some-get
returns-in-Some-get c =
    let key = c.in-Some.field-0.now.0 in
    let budgets = c.in-Some.field-0.now.1 in
    let count = c.in-Some-count_of.count in
    let held : c.args.slot.now.parts.first ≡ Some (c.in-Some.field-0.now.0, c.in-Some.field-0.now.1) = search rules in
    c.rights_of_all.ensures
    ∙ map_same (rights (budget_of c.in-Some-get.budget.now key.node count)) (slot_rights c.args.slot.now c.args.term) _
    (λ node. ap (λ (b : Budget). rights b node) (budget_seen c.args.slot.now key budgets c.args.term key.node count
    c.in-Some-get.budget.now held c.in-Some-get.ensures.value)
    ∙ rights_under c.args.slot.now key budgets c.args.term count held c.in-Some-count_of.ensures node)

pub returns-in-None : goal.returns-in-None
returns-in-None c =
    let key = c.in-Some.field-0.now.0 in
    let budgets = c.in-Some.field-0.now.1 in
    let count = c.in-Some-count_of.count in
    let held : c.args.slot.now.parts.first ≡ Some (c.in-Some.field-0.now.0, c.in-Some.field-0.now.1) = search rules in
    c.untouched_rights.ensures
    ∙ map_same _ (slot_rights c.args.slot.now c.args.term) _
    (λ node. sym (fresh_rights c.args.slot.now key budgets c.args.term count held c.in-Some-count_of.ensures
    (sym c.in-None.ensures.value) node)
    ∙ rights_under c.args.slot.now key budgets c.args.term count held c.in-Some-count_of.ensures node)
