use Rattle.std.proofs.Common.{sym, map, ◌∙◌, eq-eqb}
use Rattle.drills.specs.Joined.{is_missing, parts_of}
use Rattle.drills.specs.Parts.{part_of}
use Rattle.drills.proofs.Joins.{least_found}
use Rattle.drills.proofs.joining.no_part.Goals as goal

pub returns-then-parts_of-eq0 : goal.returns-then-parts_of-eq0
returns-then-parts_of-eq0 c =
    let parts = map part_of c.args.parts.now in
    sym (least_found (is_missing parts) c.loop-node.node c.args.nodes c.loop-node.invariant
    (eq-eqb (parts_of c.loop-node.node parts) 0 (sym c.parts_of.ensures ∙ c.if-parts_of-eq0.true)) c.loop-node-test.true)
