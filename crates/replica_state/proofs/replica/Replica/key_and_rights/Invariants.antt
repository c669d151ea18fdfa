use Rattle.replica_state.specs.States.{rights_of}
use Rattle.replica_state.proofs.Marks.{AreMarked}
use Rattle.replica_state.proofs.replica.Replica.key_and_rights.Given as goal

abbrev pub invariant-loop-term : goal.invariant-loop-term
invariant-loop-term g l = AreMarked (λ term. rights_of (g.Self.Replica.state l.self) l.name term l.node) l.term l.marks
