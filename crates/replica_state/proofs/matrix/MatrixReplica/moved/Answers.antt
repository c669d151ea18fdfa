use Rattle.std.proofs.Common.{◌≡◌, ℕ, List, refl, subst, sym}
use Rattle.replica_state.specs.States.{State}
use Rattle.replica_state.specs.MatrixStates.{matrix_state}
use Rattle.replica_state.proofs.matrix.MatrixReplica.moved.Goals as goal

shifts_of : (v : State) (name : List ℕ) (term from given to other result : ℕ) →
    result ≡ v.shifts name term given other → from ≡ given → to ≡ other → result ≡ v.shifts name term from to
shifts_of v name term from given to other result read same ends =
    subst (λ f. result ≡ v.shifts name term f to) (sym same)
    (subst (λ t. result ≡ v.shifts name term given t) (sym ends) read)

pub returns : goal.returns
returns c = shifts_of (matrix_state c.args.self.now) c.args.name.now c.args.term c.args.from _ c.args.to _
    c.number.result c.number.ensures refl refl
