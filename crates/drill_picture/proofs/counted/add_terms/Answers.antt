use Rattle.std.proofs.Common.{add-one}
use Rattle.drill_picture.proofs.Texts.{also}
use Rattle.drill_picture.proofs.counted.add_terms.Goals as goal

pub loop-term-preserved : goal.loop-term-preserved
loop-term-preserved c =
    rw add-one (also _ _ _ _ _ c.loop-term.invariant (rw c.count_of.ensures at c.in_ok-add_term.ensures))
