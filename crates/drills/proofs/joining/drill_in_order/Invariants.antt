use Rattle.std.proofs.Common.{◌≡◌, ◌≤◌, ℕ, map}
use Rattle.drills.specs.Drills.{lists_told, traces_told}
use Rattle.drills.specs.Joined.{lists_from, trace_of, traces_below}
use Rattle.drills.specs.Parts.{part_of}
use Rattle.drills.proofs.joining.drill_in_order.Given as goal

abbrev pub invariant-loop-node : goal.invariant-loop-node
invariant-loop-node l = record {
  traces : traces_told l.drill.traces.items ≡ traces_below l.node (map part_of l.initial.parts.items);
  lists : lists_told l.drill.lists.items ≡ lists_from 0 (traces_below l.node (map part_of l.initial.parts.items));
  rest : (node : ℕ) → l.node ≤ node →
      trace_of node (map part_of l.parts.items) ≡ trace_of node (map part_of l.initial.parts.items);
}
