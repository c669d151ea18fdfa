use Rattle.std.proofs.Common.{add-one}
use Rattle.drill_picture.proofs.Levels.{below_more}
use Rattle.drill_picture.proofs.Texts.{also}
use Rattle.drill_picture.proofs.charts.push_labels.Goals as goal

pub loop-node-preserved : goal.loop-node-preserved
loop-node-preserved c = record {
  low = below_more c.args.row.now c.loop-node.node c.loop-node.low c.above-low.result c.loop-node.invariant.low
      c.above-low.ensures;
  text = rw add-one (also _ _ _ _ _ c.loop-node.invariant.text
      (rw c.loop-node.invariant.low at c.in_ok-push_labels_of.ensures));
}
