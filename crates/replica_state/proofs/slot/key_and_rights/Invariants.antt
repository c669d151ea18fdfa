use Rattle.replica_state.specs.Slots.{slot_rights}
use Rattle.replica_state.proofs.Marks.{AreMarked}
use Rattle.replica_state.proofs.slot.key_and_rights.Given as goal

abbrev pub invariant-loop-term : goal.invariant-loop-term
invariant-loop-term l = AreMarked (λ term. slot_rights l.slot term l.node) l.term l.marks
