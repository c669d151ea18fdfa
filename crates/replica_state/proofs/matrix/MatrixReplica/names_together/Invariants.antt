use Rattle.std.proofs.Common.{◌≡◌, ◌+◌, length}
use Rattle.std.specs.Prelude.{is_some}
use Rattle.std.specs.Map.{keys_of}
use Rattle.std.specs.Ordering.{nat_cmp}
use Rattle.std.specs.Cmp.Lexicographic.{slice_cmp}
use Rattle.lattice_laws.specs.Map.{stored_at}
use Rattle.replica_state.specs.Unions.{with_names}
use Rattle.replica_state.proofs.NamesTogether.{shared}
use Rattle.replica_state.proofs.matrix.MatrixReplica.names_together.Given as goal

abbrev pub invariant-loop-name : goal.invariant-loop-name
invariant-loop-name l = l.names ≡ length (with_names (keys_of l.other.slots) (keys_of l.self.slots)) + shared
    (λ q. is_some (stored_at (slice_cmp nat_cmp) l.self.slots q)) (keys_of l.name-iterator)
