-- What a state holds of a name, and what an operation tells it.
use Rattle.std.specs.Prelude.{◌≡◌, ℕ, List, if◌then◌else◌, Some}
use Rattle.std.specs.Str.{bytes_eq}
use Rattle.stamp_register.specs.Keys.{KeyValue}
use Rattle.operations.specs.declared.counted.Counted.{Counted}
use Rattle.operations.specs.declared.counted.Counted.TheVariants.{Hits, Execs, Shifts}
use Rattle.operations.specs.declared.counted.Count.{Count as Counting}
use Rattle.operations.specs.Operations.{IsWellFormed}
use Rattle.operations.specs.Counts.{operation_told}
use Rattle.replica_state.specs.States.{State, with_name}
use Rattle.replica_state.specs.Folds.{Learns}
use Rattle.replica_state.specs.Points.{Held}

-- what a state holds of a name
abbrev pub cell_of : State → List ℕ → Counted → ℕ
cell_of v name (Hits node) = v.hits name node
cell_of v name (Execs term node) = v.execs name term node
cell_of v name (Shifts term from to) = v.shifts name term from to

abbrev pub held_at : State → List ℕ → Held
held_at v name = record { key = v.key name; number = cell_of v name }

-- the state in which a name holds something else
unfoldable pub with_held : List ℕ → Held → State → State
with_held name h v =
    record {
      names = with_name name v.names;
      key = λ n. if bytes_eq name n then h.key else v.key n;
      hits = λ n node. if bytes_eq name n then h.number (Hits node) else v.hits n node;
      execs = λ n term node. if bytes_eq name n then h.number (Execs term node) else v.execs n term node;
      shifts = λ n term from to. if bytes_eq name n then h.number (Shifts term from to) else v.shifts n term from to;
    }

-- the state in which a name holds what this makes of what it held
abbrev pub with_change : List ℕ → (Held → Held) → State → State
with_change name f v = with_held name (f (held_at v name)) v

-- a count can be learned of a name under the key that it has
abbrev pub MayLearnCount : State → List ℕ → Counting → Type 0
MayLearnCount v name count =
    (key : KeyValue) × (v.key name ≡ Some key) × IsWellFormed (operation_told name key (Some count))

-- with it the state is that of its set with the count under that key
abbrev pub LearnsCount : State → State → List ℕ → Counting → Type 0
LearnsCount v w name count =
    (key : KeyValue) → v.key name ≡ Some key → Learns v w (operation_told name key (Some count))
