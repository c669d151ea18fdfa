use Rattle.std.proofs.Common.{◌≡◌, ℕ, List, refl, subst, sym}
use Rattle.replica_state.specs.States.{State}
use Rattle.replica_state.specs.MatrixStates.{matrix_state}
use Rattle.replica_state.proofs.matrix.MatrixReplica.hits.Goals as goal

hits_of : (v : State) (name : List ℕ) (node given result : ℕ) → result ≡ v.hits name given → node ≡ given →
    result ≡ v.hits name node
hits_of v name node given result read same = subst (λ n. result ≡ v.hits name n) (sym same) read

pub returns : goal.returns
returns c = hits_of (matrix_state c.args.self.now) c.args.name.now c.args.node _ c.number.result c.number.ensures refl
