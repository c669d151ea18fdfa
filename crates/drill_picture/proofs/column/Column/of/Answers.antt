use Rattle.std.proofs.Common.{rules}
use Rattle.drill_picture.proofs.Levels.{below_more, levels_more}
use Rattle.drill_picture.proofs.column.Column.of.Goals as goal

pub loop-node-preserved : goal.loop-node-preserved
loop-node-preserved c =
    let row = c.args.row.now in
    let low = c.loop-node.invariant.low in
    record {
      low = below_more row c.loop-node.node c.loop-node.low c.above-low.result low c.above-low.ensures;
      levels = levels_more row c.loop-node.node c.loop-node.low c.saturating_add.result c.above-low.result
          c.loop-node.levels.items c.push-in-loop-node.new.self.items c.push-in-loop-node-2.new.self.items low
          c.loop-node.invariant.levels (search rules) c.above-low.ensures c.in_ok-push-2.ensures.items
          c.in_ok-push-3.ensures.items;
    }
