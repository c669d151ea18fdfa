use Rattle.std.proofs.Common.{◌≡◌, ◌++◌, take}
use Rattle.thread_workers.specs.Calls.{faults_in}
use Rattle.thread_workers.proofs.refused.push_faults.Given as goal

abbrev pub invariant-loop-numbered : goal.invariant-loop-numbered
invariant-loop-numbered l = record {
  all : l.all.items ≡ l.initial.all.items ++ faults_in (take l.numbered-index l.faults);
}
