use Rattle.std.proofs.Common.{rules}
use Rattle.drills.specs.Rows.{count_data}
use Rattle.drills.proofs.JsonRows.{value_more}
use Rattle.drills.proofs.json_rows.push_counts.Goals as goal

pub loop-count-preserved : goal.loop-count-preserved
loop-count-preserved c =
    value_more count_data c.args.counts.now c.loop-count.count-index 0 c.args.row.now.items c.loop-count.row.items
    c.push.new.self.items _ c.loop-count-test.true c.loop-count.invariant c.in_ok-push.ensures.items (search rules)
