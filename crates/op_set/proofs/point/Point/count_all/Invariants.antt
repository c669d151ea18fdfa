use Rattle.std.proofs.Common.{◌≡◌, max, drop}
use Rattle.operations.specs.declared.counted.Counted.{Counted}
use Rattle.op_set.specs.Counts.{number_of}
use Rattle.replica_state.specs.Unions.{if_counts}
use Rattle.op_set.proofs.point.Point.count_all.Given as goal

abbrev pub invariant-loop-count : goal.invariant-loop-count
invariant-loop-count l = record {
  key : l.self.key ≡ l.fn.self.key;
  numbers : (c : Counted) → max (number_of l.self.counts.items c)
      (if_counts l.same_key c (number_of (drop l.count-index l.counts) c)) ≡ max (number_of l.fn.self.counts.items c)
      (if_counts l.same_key c (number_of l.counts c));
}
