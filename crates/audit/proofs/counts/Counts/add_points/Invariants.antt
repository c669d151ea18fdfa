use Rattle.std.proofs.Common.{◌≡◌, ◌-◌, ◌+◌, length, take}
use Rattle.node_steps.specs.Settings.{operations_issued, settings_of}
use Rattle.audit.specs.Counts.{AddsKeys}
use Rattle.audit.proofs.counts.Counts.add_points.Given as goal

abbrev pub invariant-loop-name : goal.invariant-loop-name
invariant-loop-name l = record {
  clock : l.stamp.clock ≡ (l.fn.last.clock - length l.points) + l.name-index;
  node : l.stamp.node ≡ l.fn.last.node;
  keys : AddsKeys l.initial.self l.self (operations_issued l.fn.last.node (l.fn.last.clock - length l.points)
      (settings_of (take l.name-index l.points)));
}
