-- What a state tells, as operations; and what differs between two states of one node, which it sends to
-- a node that has the first.
use Rattle.std.specs.Prelude.{◌≡◌, ◌≢◌, ℕ, List, ◌↔◌, Some}
use Rattle.operations.specs.Operations.{Cell, Hits, Execs, Shifts, Operation, Set, Count, IsIn, name_in}
use Rattle.replica_state.specs.States.{State}

-- a state has this number in a cell: of a key, where that is its key of the name
abbrev pub HasNumber : State → Cell → ℕ → Type 0
HasNumber v (Hits name node) number = v.hits name node ≡ number
HasNumber v (Execs name key term node) number =
    (v.key name ≡ Some key) × (v.execs name term node ≡ number)
HasNumber v (Shifts name key term from to) number =
    (v.key name ≡ Some key) × (v.shifts name term from to ≡ number)

-- a state tells the setting of each name under its key, and each cell that isn't 0
abbrev pub IsTold : State → Operation → Type 0
IsTold v (Set name key) = v.key name ≡ Some key
IsTold v (Count cell number) = HasNumber v cell number × (number ≢ 0)

-- these operations are just what a state tells
abbrev pub IsAllTold : State → List Operation → Type 0
IsAllTold v ops = (op : Operation) → IsIn op ops ↔ IsTold v op

-- two states tell the same of a name
abbrev pub TellSameOf : State → State → List ℕ → Type 0
TellSameOf v w name = (op : Operation) → name_in op ≡ name → (IsTold v op ↔ IsTold w op)

-- what the second state tells and the first doesn't; and the setting of a name of which they don't tell
-- the same
abbrev pub IsInDelta : State → State → Operation → Type 0
IsInDelta v w (Set name key) = IsTold w (Set name key) × (TellSameOf v w name → ⊥)
IsInDelta v w (Count cell number) =
    IsTold w (Count cell number) × (IsTold v (Count cell number) → ⊥)

abbrev pub IsDelta : State → State → List Operation → Type 0
IsDelta v w chosen = (op : Operation) → IsIn op chosen ↔ IsInDelta v w op
