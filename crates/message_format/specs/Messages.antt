-- Messages without where they lie in memory, and the operations that they tell.
use Rattle.std.specs.Prelude.{◌≡◌, ◌≢◌, ℕ, List, ◌∷◌, ◌++◌, map}
use Rattle.std.specs.List.{flat_map, AllByRecursion}
use Rattle.stamp_register.specs.Keys.{KeyValue, key_value}
use Rattle.operations.specs.Operations.{Operation, Set, Count, Hits, Execs, Shifts}
use Rattle.message_format.specs.declared.message.NameEntry.{NameEntry}
use Rattle.message_format.specs.declared.message.Message.{Message}

-- a name, its key and what was counted: hits by node; executions by term and node; rights moved,
-- by term, from node and to node; rights granted, by term and node. The last number of each is how
-- many
pub record EntryValue : Type 0 where
  pub name : List ℕ
  pub key : KeyValue
  pub hits : List (ℕ × ℕ)
  pub execs : List (ℕ × ℕ × ℕ)
  pub shifts : List (ℕ × ℕ × ℕ × ℕ)
  pub grants : List (ℕ × ℕ × ℕ)

pub record MessageValue : Type 0 where
  pub from : ℕ
  pub to : ℕ
  pub base : ℕ
  pub upto : ℕ
  pub ack : ℕ
  pub entries : List EntryValue

abbrev pub entry_value : NameEntry → EntryValue
entry_value e = record {
  name = e.name;
  key = key_value e.key;
  hits = e.hits.items;
  execs = e.execs.items;
  shifts = e.shifts.items;
  grants = e.grants.items;
}

abbrev pub message_value : Message → MessageValue
message_value m =
    record {
      from = m.from;
      to = m.to;
      base = m.base;
      upto = m.upto;
      ack = m.ack;
      entries = map entry_value m.entries.items;
    }

-- what the cells of a name tell
abbrev pub hits_in : List ℕ → List (ℕ × ℕ) → List Operation
hits_in name cells = map (λ c. Count (Hits name c.0) c.1) cells

abbrev pub execs_in : List ℕ → KeyValue → List (ℕ × ℕ × ℕ) → List Operation
execs_in name key cells = map (λ c. Count (Execs name key c.0 c.1) c.2) cells

abbrev pub shifts_in : List ℕ → KeyValue → List (ℕ × ℕ × ℕ × ℕ) → List Operation
shifts_in name key cells = map (λ c. Count (Shifts name key c.0 c.1 c.2) c.3) cells

-- what a node granted is what it moved to itself
abbrev pub grants_in : List ℕ → KeyValue → List (ℕ × ℕ × ℕ) → List Operation
grants_in name key cells = map (λ c. Count (Shifts name key c.0 c.1 c.1) c.2) cells

-- what an entry tells: its setting, and then each of its cells
abbrev pub operations_of : EntryValue → List Operation
operations_of e =
    Set e.name e.key ∷ (hits_in e.name e.hits ++ (execs_in e.name e.key e.execs
    ++ (shifts_in e.name e.key e.shifts ++ grants_in e.name e.key e.grants)))

-- what a message tells
abbrev pub operations_in : MessageValue → List Operation
operations_in m = flat_map operations_of m.entries

-- no shift of a message goes from a node to itself, as a grant does
abbrev pub MovesToOthers : MessageValue → Type 0
MovesToOthers m = AllByRecursion (λ e. AllByRecursion (λ c. c.2 ≢ c.1) e.shifts) m.entries

-- messages of one node to one other that tell the same versions and the same operations
pub record TellSame (m n : MessageValue) : Type 0 where
  pub from : m.from ≡ n.from
  pub to : m.to ≡ n.to
  pub base : m.base ≡ n.base
  pub upto : m.upto ≡ n.upto
  pub ack : m.ack ≡ n.ack
  pub operations : operations_in m ≡ operations_in n
