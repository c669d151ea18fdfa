-- What a set of operations knows: what it holds, and what a later operation that it holds
-- overtakes.
use Rattle.std.specs.Prelude.{◌≡◌, ℕ, ◌≤◌, nat_le, not, Bool, true, false, List, ◌⊎◌, if◌then◌else◌, Option, Some, None}
use Rattle.std.specs.List.{list_any}
use Rattle.stamp_register.specs.Keys.{KeyValue, key_le, same_key, IsLower}
use Rattle.operations.specs.Operations.{Cell, Hits, Execs, Shifts, Operation, Set, Count, IsIn}
use Rattle.replica_state.specs.States.{State}
use Rattle.replica_state.specs.Folds.{key_in}

-- the set holds this operation of a cell, or a later one
pub record HoldsLater (ops : List Operation) (cell : Cell) (number : ℕ) : Type 0 where
  pub later : ℕ
  pub at_least : number ≤ later
  pub held : IsIn (Count cell later) ops

-- the set holds an operation of the name with a key that passes
pub record HoldsKey (ops : List Operation) (name : List ℕ) (test : KeyValue → Type 0) : Type 0 where
  pub key : KeyValue
  pub op : Operation
  pub held : IsIn op ops
  pub carries : key_in name op ≡ Some key
  pub passes : test key

abbrev pub Knows : List Operation → Operation → Type 0
Knows ops (Set name key) = HoldsKey ops name (λ other. key_le key other ≡ true)
Knows ops (Count (Hits name node) number) = HoldsLater ops (Hits name node) number
Knows ops (Count (Execs name key term node) number) =
    HoldsLater ops (Execs name key term node) number ⊎ HoldsKey ops name (IsLower key)
Knows ops (Count (Shifts name key term from to) number) =
    HoldsLater ops (Shifts name key term from to) number ⊎ HoldsKey ops name (IsLower key)

abbrev pub KnowsAll : List Operation → List Operation → Type 0
KnowsAll ops others = (op : Operation) → IsIn op others → Knows ops op

-- the same, as a test of the state that the set comes to
abbrev pub is_upto : Option KeyValue → Option KeyValue → Bool
is_upto None b = true
is_upto (Some a) None = false
is_upto (Some a) (Some b) = key_le a b

abbrev pub knows_count : KeyValue → ℕ → ℕ → Option KeyValue → Bool
knows_count key number here None = false
knows_count key number here (Some other) = if same_key other key then nat_le number here else key_le key other

abbrev pub knows : State → Operation → Bool
knows v (Set name key) = is_upto (Some key) (v.key name)
knows v (Count (Hits name node) number) = nat_le number (v.hits name node)
knows v (Count (Execs name key term node) number) = knows_count key number (v.execs name term node) (v.key name)
knows v (Count (Shifts name key term from to) number) = knows_count key number (v.shifts name term from to) (v.key name)

-- whether these operations change the state
abbrev pub changes : State → List Operation → Bool
changes v ops = list_any (λ op. not (knows v op)) ops
