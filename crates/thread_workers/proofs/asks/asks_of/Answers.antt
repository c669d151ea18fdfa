use Rattle.thread_workers.proofs.LineAsks.{count_next, told_next}
use Rattle.thread_workers.proofs.asks.asks_of.Goals as goal

pub loop-line-preserved : goal.loop-line-preserved
loop-line-preserved c =
    let lines = c.args.block.now.lines.items in
    let below = rw c.deref-line-items.ensures.value at c.loop-line-test.true in
    record {
      len = count_next lines c.loop-line.line-index _ below _ _ c.loop-line.invariant.len
          (rw c.deref-line-items.ensures.value at c.in_ok-push_asks.ensures.len);
      told = told_next lines c.loop-line.line-index _ below _ _ c.loop-line.invariant.told
          (rw c.deref-line-items.ensures.value at c.in_ok-push_asks.ensures.told);
    }
