use Rattle.std.proofs.Common.{◌≡◌, ◌++◌, map}
use Rattle.std.specs.List.{AllByRecursion, flat_map}
use Rattle.std.specs.List.Sorted.{IsStrictlySortedBy}
use Rattle.std.specs.Ordering.{nat_cmp}
use Rattle.std.specs.Cmp.Lexicographic.{slice_cmp}
use Rattle.replica_state.specs.Cells.{held_at}
use Rattle.sharing.specs.Memory.{recall}
use Rattle.sharing.specs.Remembered.{recalled_all}
use Rattle.sharing.specs.Rooms.{HasPlaces}
use Rattle.sharing.specs.Shares.{memory_after, point_shifts, recalled_after, shifts_of}
use Rattle.sharing.proofs.Recalling.{RecallsAll}
use Rattle.sharing.proofs.memory.round_of.Given as goal

abbrev pub invariant-loop-name : goal.invariant-loop-name
invariant-loop-name g l =
    let v = g.R.Replica.state l.replica in
    let memory = recalled_all l.memory in
    let left = map (λ e. e.0) l.name-iterator in
    record {
      shifts : l.shifts.items ++ flat_map (λ name. point_shifts v l.node l.nodes (recall memory name) name) left
          ≡ shifts_of v l.node l.nodes memory;
      after : recalled_all l.points.items
          ++ map (λ name. recalled_after v l.node l.nodes (recall memory name) name) left
          ≡ memory_after v l.node l.nodes memory;
      ascending : IsStrictlySortedBy (slice_cmp nat_cmp) left;
      recalls : RecallsAll (recalled_all l.rest) memory left;
      room : HasPlaces l.nodes l.spare.room;
      held : AllByRecursion (λ e. g.R.Point.Stored.held e.1 ≡ held_at v e.0) l.name-iterator;
    }
