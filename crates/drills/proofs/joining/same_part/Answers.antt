use Rattle.std.proofs.Common.{sym, map}
use Rattle.std.proofs.lemmas.Bool.{lt-ltb}
use Rattle.drills.specs.Joined.{is_doubled, parts_of}
use Rattle.drills.specs.Parts.{part_of}
use Rattle.drills.proofs.Joins.{least_found}
use Rattle.drills.proofs.joining.same_part.Goals as goal

pub returns-then-parts_of-gt1 : goal.returns-then-parts_of-gt1
returns-then-parts_of-gt1 c =
    let parts = map part_of c.args.parts.now in
    sym (least_found (is_doubled parts) c.loop-node.node c.args.nodes c.loop-node.invariant
    (lt-ltb 1 (parts_of c.loop-node.node parts) (rw c.parts_of.ensures at c.if-parts_of-gt1.true)) c.loop-node-test.true)
