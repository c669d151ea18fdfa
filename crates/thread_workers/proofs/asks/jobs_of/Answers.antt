use Rattle.std.proofs.Common.{arith}
use Rattle.thread_workers.proofs.Made.{asks_more, count_more}
use Rattle.thread_workers.proofs.asks.jobs_of.Goals as goal

pub push_job-requires-clause-room : goal.push_job-requires-clause-room
push_job-requires-clause-room g c =
    let was = c.loop-block.invariant in
    let count = count_more c.args.node c.args.blocks.now c.loop-block.block-index c.block-item.result
    c.loop-block-test.true c.block-item.is in
    omega (arith, was.seats, c.requires.each, count.0, count.1)

pub loop-block-preserved : goal.loop-block-preserved
loop-block-preserved g c =
    let was = c.loop-block.invariant in
    let more = c.in_ok-push_job.ensures in
    let count = count_more c.args.node c.args.blocks.now c.loop-block.block-index c.block-item.result
    c.loop-block-test.true c.block-item.is in
    record {
      len = omega (arith, was.len, more.len, count.0);
      seats = omega (arith, was.seats, more.seats, count.0);
      few = more.few;
      fresh = more.fresh;
      fresh_seats = more.fresh_seats;
      asks = asks_more c.args.blocks.now c.args.node c.loop-block.block-index c.block-item.result
          c.loop-block-test.true c.block-item.is _ _ was.asks
          more.asks;
    }
