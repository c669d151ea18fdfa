use Rattle.std.proofs.Common.{◌≡◌, ◌*◌, ◌≤◌, ◌^◌}
use Rattle.counters.specs.Sums.{sum_below}
use Rattle.op_set.specs.Counts.{number_of}
use Rattle.operations.specs.declared.counted.Counted.TheVariants.{Shifts}
use Rattle.op_set.proofs.budget.sum_grants.Given as goal

abbrev pub invariant-loop-node : goal.invariant-loop-node
invariant-loop-node l = record {
  value : l.sum ≡ sum_below l.node
      (λ node. number_of l.counts (Shifts l.term node node));
  small : l.sum ≤ l.node * 2 ^ 64;
}
