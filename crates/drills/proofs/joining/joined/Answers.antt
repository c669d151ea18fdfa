use Rattle.std.proofs.Common.{map, sym, ap, ◌∙◌}
use Rattle.drills.specs.Drills.{drill_of}
use Rattle.drills.specs.Joined.{nodes_of}
use Rattle.drills.specs.Parts.{part_of}
use Rattle.drills.proofs.Joins.{joined_err, joined_ok}
use Rattle.drills.proofs.joining.joined.Goals as goal

pub returns-in-Err-clause-err : goal.returns-in-Err-clause-err
returns-in-Err-clause-err c = λ _.
    joined_err (map part_of c.args.parts.items) c.in-Err.fault
    (ap (λ ps. nodes_of (map part_of ps)) (sym c.deref.ensures.value) ∙ sym c.nodes_of.ensures ∙ c.in-Err.is)

pub returns-clause-ok : goal.returns-clause-ok
returns-clause-ok c =
    joined_ok (map part_of c.args.parts.items) c.in-Ok.nodes (drill_of c.in_ok-drill_in_order.field-0)
    (ap (λ ps. nodes_of (map part_of ps)) (sym c.deref.ensures.value) ∙ sym c.nodes_of.ensures ∙ c.in-Ok.is)
    c.in_ok-drill_in_order.ensures
