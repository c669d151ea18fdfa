use Rattle.std.specs.Prelude.{OnOk}
use Rattle.std.proofs.Common.{◌≡◌, List, ◌++◌, Result, refl, subst, sym}
use Rattle.replica_state.specs.declared.matrix.Matrix.{Matrix}
use Rattle.operations.specs.Operations.{Operation}
use Rattle.replica_state.specs.Folds.{fold}
use Rattle.replica_state.specs.States.{State}
use Rattle.replica_state.specs.MatrixStates.{matrix_state}
use Rattle.replica_state.proofs.matrix.MatrixReplica.merge.Goals as goal

abbrev Unites : State → State → State → Type 0
Unites old other new = (a b : List Operation) → old ≡ fold a → other ≡ fold b → new ≡ fold (a ++ b)

learnt : {A E : Type 0} (r : Result A E) (old new other given : Matrix) →
    OnOk r (Unites (matrix_state old) (matrix_state given) (matrix_state new)) → other ≡ given →
    OnOk r (Unites (matrix_state old) (matrix_state other) (matrix_state new))
learnt r old new other given joined same = subst (λ m. OnOk r
    (Unites (matrix_state old) (matrix_state m) (matrix_state new))) (sym same) joined

pub returns-clause-ok : goal.returns-clause-ok
returns-clause-ok c = learnt c.join_in.result c.args.self.now c.join_in.new.self c.args.other _ c.join_in.ensures.union
    refl
