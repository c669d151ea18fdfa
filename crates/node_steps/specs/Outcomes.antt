-- What calls change: the keys of a setting, and of a pass whether it counts a hit and the counted term
-- that it executes.
use Rattle.std.specs.Prelude.{◌≡◌, ℕ, Bool, true, false, List, [], ◌∷◌, ◌++◌, ◌+◌, Option, Some, None, is_some, IsSome, IsTrue, if◌then◌else◌}
use Rattle.actions.specs.Value.{TermValue}
use Rattle.actions.specs.Names.{is_name}
use Rattle.stamp_register.specs.Keys.{KeyValue}
use Rattle.operations.specs.Operations.{Operation, IsIn, count_at}
use Rattle.replica_state.specs.States.{State, with_name, with_key, with_pass}
use Rattle.message_format.specs.Spelling.{IsBody}
use Rattle.node_steps.specs.Passes.{next_hit, next_exec}
use Rattle.node_steps.specs.Settings.{new_key}

-- the triggered term, if it is counted
abbrev pub spent_by : List TermValue → Option ℕ → Option ℕ
spent_by terms None = None
spent_by terms (Some term) = if is_some (count_at terms term) then Some term else None

abbrev pub execs_done : ℕ → State → List ℕ → Option KeyValue → Option ℕ → List Operation
execs_done i v name None spent = []
execs_done i v name (Some key) None = []
execs_done i v name (Some key) (Some term) = next_exec i v name key term ∷ []

abbrev pub ops_done : ℕ → State → List ℕ → Bool → Option ℕ → List Operation
ops_done i v name false spent = []
ops_done i v name true spent = execs_done i v name (v.key name) spent ++ next_hit i v name ∷ []

abbrev pub state_done : ℕ → State → List ℕ → Bool → Option ℕ → State
state_done i v name false spent = v
state_done i v name true spent = with_pass name i spent v

-- a name that is held adds none
abbrev pub IsHeld : State → List ℕ → Type 0
IsHeld v name = with_name name v.names ≡ v.names

-- a name that has a key is held
abbrev pub HasKey : State → List ℕ → Type 0
HasKey v name = IsSome (v.key name) × IsHeld v name

-- the state after points were set, one after the other
abbrev pub state_set : ℕ → ℕ → List (List ℕ × Option (List ℕ)) → State → State
state_set i clock [] v = v
state_set i clock (setting ∷ rest) v = state_set i (clock + 1) rest (with_key setting.0 (new_key i clock setting.1) v)

-- each is a name with a body that a message can tell
abbrev pub AreTellable : List (List ℕ × Option (List ℕ)) → Type 0
AreTellable points = (s : List ℕ × Option (List ℕ)) → IsIn s points → IsTrue (is_name s.0) × IsBody s.1
