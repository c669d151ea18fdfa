use Rattle.std.proofs.Common.{◌≡◌, length, replicate, refl, rules, sym, ◌∙◌}
use Rattle.counters.specs.Cells.{spent_cell}
use Rattle.operations.specs.declared.counted.Counted.TheVariants.{Execs}
use Rattle.replica_state.specs.Slots.{slot_number}
use Rattle.replica_state.proofs.Columns.{all_alike, map_same}
use Rattle.replica_state.proofs.slot.execs_of_all.Goals as goal

pub returns-in-Some : goal.returns-in-Some
returns-in-Some c = c.spent_of_all.ensures
    ∙ map_same (spent_cell c.in-Some.budget.now) (λ node. slot_number c.args.slot.now (Execs c.args.term node)) _
    (λ node. sym (c.in-Some.ensures.some (Execs c.args.term node) refl))

pub returns-in-None : goal.returns-in-None
returns-in-None c =
    let zeros : c.fill.new.self ≡ replicate (length c.args.into.now) 0 = search rules in
    zeros ∙ all_alike (λ node. slot_number c.args.slot.now (Execs c.args.term node)) 0 (length c.args.into.now)
    (λ node. c.in-None.ensures.none (Execs c.args.term node) refl)
