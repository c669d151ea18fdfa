use Rattle.std.proofs.Common.{◌≤◌, take}
use Rattle.std.specs.List.{AllByRecursion}
use Rattle.op_set.specs.Counts.{node_bound}
use Rattle.operations.specs.declared.counted.Count.{Count}
use Rattle.op_set.proofs.budget.nodes_counted.Given as goal

abbrev pub invariant-loop-count : goal.invariant-loop-count
invariant-loop-count l = record {
  below : AllByRecursion (λ (x : Count). node_bound x.counted ≤ l.nodes) (take l.count-index l.counts);
  small : l.nodes ≤ 256;
}
