use Rattle.std.proofs.Common.{◌≡◌, ◌-◌, length, take}
use Rattle.node_core.specs.Resumed.{IsLegalKept}
use Rattle.node_core.proofs.Repeated.{alone}
use Rattle.node_core.proofs.node.NodeCore.resume.Given as goal

abbrev pub invariant-loop-told : goal.invariant-loop-told
invariant-loop-told l = record {
  legal : IsLegalKept l.node;
  node : l.node ≡ alone l.fn.config (take l.index l.calls.calls);
}

abbrev pub decreases-loop-told : goal.decreases-loop-told
decreases-loop-told l = length l.calls.calls - l.index
