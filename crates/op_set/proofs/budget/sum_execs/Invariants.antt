use Rattle.std.proofs.Common.{◌≡◌, ◌*◌, ◌≤◌, ◌^◌}
use Rattle.counters.specs.Sums.{sum_below}
use Rattle.op_set.specs.Counts.{number_of}
use Rattle.operations.specs.declared.counted.Counted.TheVariants.{Execs}
use Rattle.op_set.proofs.budget.sum_execs.Given as goal

abbrev pub invariant-loop-node : goal.invariant-loop-node
invariant-loop-node l = record {
  value : l.sum ≡ sum_below l.node (λ node. number_of l.counts (Execs l.term node));
  small : l.sum ≤ l.node * 2 ^ 64;
}
