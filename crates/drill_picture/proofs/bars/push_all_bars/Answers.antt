use Rattle.std.proofs.Common.{add-one}
use Rattle.drill_picture.proofs.Texts.{also}
use Rattle.drill_picture.proofs.bars.push_all_bars.Goals as goal

pub loop-node-preserved : goal.loop-node-preserved
loop-node-preserved c = rw add-one (also _ _ _ _ _ c.loop-node.invariant c.in_ok-push_lane.ensures)
