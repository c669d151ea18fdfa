-- What a state has learned of operations, and what key it has of a name.
use Rattle.std.specs.Prelude.{◌≡◌, ℕ, List, ◌++◌, Option}
use Rattle.stamp_register.specs.Keys.{KeyValue}
use Rattle.operations.specs.Operations.{Operation}
use Rattle.replica_state.specs.States.{State}
use Rattle.replica_state.specs.Folds.{fold}

-- where the first state is that of some set, the second is that of the set with these operations
abbrev pub HasLearned : State → State → List Operation → Type 0
HasLearned v w operations = (ops : List Operation) → v ≡ fold ops → w ≡ fold (operations ++ ops)

-- a state is that of some set, and this is its key of a name, or none
abbrev pub HasKeyOf : State → List ℕ → Option KeyValue → Type 0
HasKeyOf v name key = (ops : List Operation) × (v ≡ fold ops) × (v.key name ≡ key)
