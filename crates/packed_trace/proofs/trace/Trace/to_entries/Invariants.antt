use Rattle.std.proofs.Common.{◌≡◌, ◌≤◌, ◌-◌, length, take, map}
use Rattle.node_calls.specs.Told.{told}
use Rattle.packed_trace.proofs.trace.Trace.to_entries.Given as goal

abbrev pub invariant-loop-seen : goal.invariant-loop-seen
invariant-loop-seen l = record {
  told : map told l.entries.items ≡ take (length l.entries.items) l.self.calls;
  few : length l.entries.items ≤ length l.self.calls;
}

abbrev pub decreases-loop-seen : goal.decreases-loop-seen
decreases-loop-seen l = length l.self.calls - length l.entries.items
