use Rattle.std.proofs.Common.{◌≡◌, ℕ, List, refl, subst, sym}
use Rattle.replica_state.specs.States.{State}
use Rattle.replica_state.specs.MatrixStates.{matrix_state}
use Rattle.replica_state.proofs.matrix.MatrixReplica.exec.Goals as goal

execs_of : (v : State) (name : List ℕ) (term node given result : ℕ) → result ≡ v.execs name given node → term ≡ given →
    result ≡ v.execs name term node
execs_of v name term node given result read same = subst (λ k. result ≡ v.execs name k node) (sym same) read

pub returns : goal.returns
returns c = execs_of (matrix_state c.args.self.now) c.args.name.now c.args.term c.args.node _ c.number.result
    c.number.ensures refl
