use Rattle.std.proofs.Common.{◌≡◌, ℕ, List, map, sym, ap, subst}
use Rattle.std.specs.List.{AllByRecursion}
use Rattle.replica_state.specs.declared.slot.Slot.{Slot}
use Rattle.replica_state.specs.Cells.{held_at}
use Rattle.replica_state.specs.Slots.{slot_held, shown_slots}
use Rattle.replica_state.specs.MatrixStates.{matrix_state}
use Rattle.replica_state.proofs.Listed.{slots_listed}
use Rattle.replica_state.proofs.matrix.MatrixReplica.points.Goals as goal

pub returns-clause-names : goal.returns-clause-names
unfolding matrix_state shown_slots
returns-clause-names c = ap (map (λ (e : List ℕ × Slot). e.0)) c.iter.ensures.rest

pub returns-clause-held : goal.returns-clause-held
unfolding matrix_state
returns-clause-held c =
    subst (AllByRecursion (λ (e : List ℕ × Slot). slot_held e.1 ≡ held_at (shown_slots c.args.self.now.slots) e.0))
    (sym c.iter.ensures.rest)
    (slots_listed c.args.self.now.slots c.iter.ensures.is_map)
