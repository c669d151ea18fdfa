use Rattle.std.proofs.Common.{◌≡◌, ◌-◌, length, map, take}
use Rattle.node_calls.specs.Asks.{call_from}
use Rattle.node_steps.specs.Nodes.{start}
use Rattle.audit.specs.Tallies.{Notes}
use Rattle.node_core.specs.Resumed.{IsLegalKept}
use Rattle.node_core.proofs.Repeated.{alone}
use Rattle.audit.proofs.replay.first_wrong.Given as goal

abbrev pub invariant-loop-seen : goal.invariant-loop-seen
invariant-loop-seen l = record {
  legal : IsLegalKept l.core;
  noted : Notes l.initial.tally l.tally l.fn.config.node start
      (map (call_from l.fn.config.nodes) (take l.index l.trace.calls));
  core : l.core ≡ alone l.fn.config (take l.index l.trace.calls);
}

abbrev pub decreases-loop-seen : goal.decreases-loop-seen
decreases-loop-seen l = length l.trace.calls - l.index
