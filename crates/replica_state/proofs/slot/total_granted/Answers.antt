use Rattle.std.proofs.Common.{refl, sym, ◌∙◌}
use Rattle.counters.specs.Sums.{node_numbers}
use Rattle.counters.specs.Cells.{granted_cell}
use Rattle.counters.proofs.SumLemmas.{sum-same, sum-zero}
use Rattle.replica_state.specs.Slots.{slot_number}
use Rattle.operations.specs.declared.counted.Counted.TheVariants.{Shifts}
use Rattle.replica_state.proofs.slot.total_granted.Goals as goal

pub returns-in-Some : goal.returns-in-Some
returns-in-Some c =
    c.total_granted.ensures
    ∙ sum-same node_numbers (granted_cell c.in-Some.budget.now)
    (λ node. slot_number c.args.slot.now (Shifts c.args.term node node))
    (λ node below. sym (c.in-Some.ensures.some (Shifts c.args.term node node) refl))

pub returns-in-None : goal.returns-in-None
returns-in-None c =
    sym (sum-zero node_numbers (λ node. slot_number c.args.slot.now (Shifts c.args.term node node))
    (λ node. c.in-None.ensures.none (Shifts c.args.term node node) refl))
