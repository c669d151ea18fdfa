use Rattle.std.proofs.Common.{◌≡◌}
use Rattle.std.specs.Map.{keys_of}
use Rattle.std.specs.Ordering.{nat_cmp}
use Rattle.std.specs.List.Sorted.{IsStrictlySortedBy}
use Rattle.std.specs.Cmp.Lexicographic.{slice_cmp}
use Rattle.replica_state.specs.Unions.{union_of}
use Rattle.op_set.specs.Shown.{shown}
use Rattle.op_set.proofs.point_map.Points.take_in.Given as goal

abbrev pub invariant-loop-name : goal.invariant-loop-name
invariant-loop-name l = record {
  sorted : IsStrictlySortedBy (slice_cmp nat_cmp) (keys_of l.name-iterator);
  same : union_of (shown l.self) (shown l.name-iterator) ≡ union_of (shown l.fn.self) (shown l.other);
}
