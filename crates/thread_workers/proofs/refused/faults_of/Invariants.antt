use Rattle.std.proofs.Common.{◌≡◌, take}
use Rattle.std.specs.List.{flat_map}
use Rattle.thread_workers.specs.Calls.{faults_told}
use Rattle.thread_workers.proofs.refused.faults_of.Given as goal

abbrev pub invariant-loop-done : goal.invariant-loop-done
invariant-loop-done g l = record {
  all : l.all.items ≡ flat_map (λ d. faults_told d) (take l.done-index l.dones);
}
