use Rattle.std.proofs.Common.{add-one}
use Rattle.drill_picture.proofs.Texts.{also}
use Rattle.drill_picture.proofs.bars.push_bars_below.Goals as goal

pub loop-bin-preserved : goal.loop-bin-preserved
loop-bin-preserved c = rw add-one (also _ _ _ _ _ c.loop-bin.invariant (rw c.count_in.ensures at c.in_ok-push_bar.ensures))
