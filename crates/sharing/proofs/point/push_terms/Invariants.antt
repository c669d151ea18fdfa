use Rattle.std.proofs.Common.{◌≡◌, ◌++◌}
use Rattle.std.specs.List.{flat_map, range_with_len}
use Rattle.replica_state.specs.Cells.{held_at}
use Rattle.replica_state.specs.States.{State}
use Rattle.sharing.specs.Rooms.{IsAsLarge}
use Rattle.sharing.specs.Shares.{term_shifts}
use Rattle.sharing.proofs.point.push_terms.Given as goal

abbrev pub invariant-loop-term : goal.invariant-loop-term
invariant-loop-term g l =
    record {
      kept : IsAsLarge l.initial.room l.room;
      shifts : (v : State) → g.S.Stored.held l.stored ≡ held_at v l.name → l.shifts.items ≡ l.initial.shifts.items
          ++ flat_map (term_shifts v l.name l.giver.node l.giver.still l.initial.room.others.items)
          (range_with_len 0 l.term);
    }
