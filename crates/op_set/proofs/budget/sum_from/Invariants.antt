use Rattle.std.proofs.Common.{◌≡◌, ◌*◌, ◌≤◌, ◌^◌}
use Rattle.counters.specs.Sums.{sum_others}
use Rattle.op_set.specs.Counts.{number_of}
use Rattle.operations.specs.declared.counted.Counted.TheVariants.{Shifts}
use Rattle.op_set.proofs.budget.sum_from.Given as goal

abbrev pub invariant-loop-node : goal.invariant-loop-node
invariant-loop-node l = record {
  value : l.sum ≡ sum_others l.node l.from
      (λ to. number_of l.counts (Shifts l.term l.from to));
  small : l.sum ≤ l.node * 2 ^ 64;
}
