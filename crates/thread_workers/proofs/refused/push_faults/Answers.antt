use Rattle.thread_workers.proofs.Faults.{one_fault}
use Rattle.thread_workers.proofs.refused.push_faults.Goals as goal

pub loop-numbered-preserved : goal.loop-numbered-preserved
loop-numbered-preserved c = record {
  all = one_fault c.args.faults.now c.loop-numbered.numbered-index _ c.loop-numbered-test.true _ _ _
      c.loop-numbered.invariant.all c.in_ok-push.ensures.items;
}
