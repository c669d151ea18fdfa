-- What the slots of a matrix show: of each name, in byte order, the cells that are stored of it.
use Rattle.std.specs.Prelude.{◌≡◌, ◌≢◌, ℕ, ◌+◌, ◌≤◌, max, length, List, [], Option, Some, None, option_map, ℤ}
use Rattle.std.specs.Map.{keys_of}
use Rattle.std.specs.Ordering.{nat_cmp}
use Rattle.std.specs.Cmp.Lexicographic.{slice_cmp}
use Rattle.lattice_laws.specs.Map.{value_at}
use Rattle.lattice_laws.specs.Pair.{pair_of}
use Rattle.counters.specs.Cells.{Shares, cell, spent_cell, moved_cell, no_shares, WritesSpent, WritesMoved}
use Rattle.stamp_register.specs.declared.key.Key.{Key}
use Rattle.stamp_register.specs.Keys.{KeyValue, key_value}
use Rattle.replica_state.specs.declared.slot.Slot.{Slot}
use Rattle.operations.specs.declared.counted.Counted.{Counted}
use Rattle.operations.specs.declared.counted.Counted.TheVariants.{Hits, Execs, Shifts}
use Rattle.operations.specs.declared.counted.Count.{Count}
use Rattle.replica_state.specs.States.{State, with_name}
use Rattle.replica_state.specs.Points.{Held, empty_held, rights_of_key}
use Rattle.replica_state.specs.Cells.{cell_of, with_held}

-- the budgets of a key's terms
abbrev pub Budgets : Type 0
Budgets = List (ℕ × Shares)

abbrev pub no_slot : Slot
no_slot = record { parts = pair_of None [] }

abbrev pub slot_key : Slot → Option KeyValue
slot_key slot = option_map (λ p. key_value p.0) slot.parts.first

-- what a budget counts of its own term
abbrev pub share_number : Shares → Counted → ℕ
share_number shares (Hits node) = 0
share_number shares (Execs term node) = spent_cell shares node
share_number shares (Shifts term from to) = moved_cell shares from to

-- what the budgets count, each of its own term
abbrev pub budgets_number : Budgets → Counted → ℕ
budgets_number budgets (Hits node) = 0
budgets_number budgets (Execs term node) = share_number (value_at nat_cmp no_shares budgets term) (Execs term node)
budgets_number budgets (Shifts term from to) =
    share_number (value_at nat_cmp no_shares budgets term) (Shifts term from to)

abbrev pub under_key : Option (Key × Budgets) → Counted → ℕ
under_key None counted = 0
under_key (Some held) counted = budgets_number held.1 counted

-- the number of what is counted so, 0 under no key
abbrev pub slot_number : Slot → Counted → ℕ
slot_number slot (Hits node) = cell slot.parts.second node
slot_number slot (Execs term node) = under_key slot.parts.first (Execs term node)
slot_number slot (Shifts term from to) = under_key slot.parts.first (Shifts term from to)

unfoldable pub slot_held : Slot → Held
slot_held slot = record { key = slot_key slot; number = slot_number slot }

-- the rights of a node, 0 where the term isn't counted
abbrev pub slot_rights : Slot → ℕ → ℕ → ℤ
slot_rights slot term node = rights_of_key (slot_key slot) (slot_number slot) term node

-- what is stored of a name
abbrev pub slot_at : List (List ℕ × Slot) → List ℕ → Slot
slot_at slots name = value_at (slice_cmp nat_cmp) no_slot slots name

unfoldable pub shown_slots : List (List ℕ × Slot) → State
shown_slots slots =
    record {
      names = keys_of slots;
      key = λ name. slot_key (slot_at slots name);
      hits = λ name node. slot_number (slot_at slots name) (Hits node);
      execs = λ name term node. slot_number (slot_at slots name) (Execs term node);
      shifts = λ name term from to. slot_number (slot_at slots name) (Shifts term from to);
    }

-- what is stored of a name is what the state has of it, and the name is one of the state's
pub record IsSlotOf (v : State) (name : List ℕ) (slot : Slot) : Type 0 where
  pub key : slot_key slot ≡ v.key name
  pub number : (counted : Counted) → slot_number slot counted ≡ cell_of v name counted
  pub named : with_name name v.names ≡ v.names

-- the state has nothing of a name
pub record HasNoSlot (v : State) (name : List ℕ) : Type 0 where
  pub key : v.key name ≡ None
  pub number : (counted : Counted) → cell_of v name counted ≡ 0
  pub unnamed : length (with_name name v.names) ≡ length v.names + 1

-- a call was made on what is stored of a name, and the state has of the name what the call left, if
-- that is anything; where the call left what was there, the state is as it was
pub record ChangesSlot {R : Type 0} (call : Slot → R → Slot → Type 0) (v w : State) (name : List ℕ)
    (answer : R) : Type 0 where
  pub before : Slot
  pub after : Slot
  pub is_stored : IsSlotOf v name before
  pub is_called : call before answer after
  pub written : slot_held after ≢ empty_held → w ≡ with_held name (slot_held after) v
  pub unchanged : slot_held after ≡ slot_held before → w ≡ v

-- a budget in which what is counted so is at least this number, and all else is as it was
abbrev pub IsShareRaised : Shares → Shares → Counted → ℕ → Type 0
IsShareRaised old new (Hits node) number = new ≡ old
IsShareRaised old new (Execs term node) number = WritesSpent old new node (max (spent_cell old node) number)
IsShareRaised old new (Shifts term from to) number = WritesMoved old new from to (max (moved_cell old from to) number)

-- an operation with this key or none, and this count or none, says something of its name
abbrev pub SaysSomething : Option KeyValue → Option Count → Type 0
SaysSomething (Some key) count = Unit {0}
SaysSomething None None = ⊥
SaysSomething None (Some count) = 1 ≤ count.number
