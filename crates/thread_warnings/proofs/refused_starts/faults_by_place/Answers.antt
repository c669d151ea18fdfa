use Rattle.std.proofs.Common.{rules}
use Rattle.thread_warnings.proofs.RefusedStarts.{none_placed, one_placed}
use Rattle.thread_warnings.proofs.refused_starts.faults_by_place.Goals as goal

pub loop-numbered-init : goal.loop-numbered-init
loop-numbered-init c = record { so_far = none_placed c.args.lines _ (search rules) }

pub loop-numbered-preserved : goal.loop-numbered-preserved
loop-numbered-preserved c = record {
  so_far = one_placed c.args.lines c.args.refused.now c.loop-numbered.numbered-index _ _ _
      c.loop-numbered-test.true c.loop-numbered.invariant.so_far (search rules) c.put_fault.ensures;
}
