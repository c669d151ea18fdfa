use Rattle.thread_workers.proofs.Faults.{one_worker}
use Rattle.thread_workers.proofs.refused.faults_of.Goals as goal

pub loop-done-preserved : goal.loop-done-preserved
loop-done-preserved g c = record {
  all = one_worker c.args.dones.now c.loop-done.done-index c.done-item.result c.loop-done-test.true c.done-item.is _ _
      c.loop-done.invariant.all (rw c.deref.ensures.value at c.in_ok-push_faults.ensures);
}
