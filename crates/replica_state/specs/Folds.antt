-- The state that a set of operations comes to. It is read off the whole set: the greatest key of a
-- name, and the greatest number of each cell.
use Rattle.std.specs.Prelude.{◌≡◌, ℕ, max, Bool, true, nat_lt, List, [], ◌∷◌, ◌++◌, if◌then◌else◌, Option, Some, None}
use Rattle.std.specs.Str.{bytes_eq}
use Rattle.stamp_register.specs.Keys.{KeyValue, key_le}
use Rattle.operations.specs.Operations.{Cell, Hits, Execs, Shifts, Operation, Set, Count, name_in, same_cell}
use Rattle.replica_state.specs.States.{State, with_name}

-- a hit numbered 0 is none, and holds no name
abbrev pub is_counted_cell : Cell → ℕ → Bool
is_counted_cell (Hits n node) number = nat_lt 0 number
is_counted_cell (Execs n key term node) number = true
is_counted_cell (Shifts n key term from to) number = true

abbrev pub holds_name : Operation → Bool
holds_name (Set n key) = true
holds_name (Count cell number) = is_counted_cell cell number

-- the names that have a key or a hit
abbrev pub names_of : List Operation → List (List ℕ)
names_of [] = []
names_of (op ∷ ops) = if holds_name op then with_name (name_in op) (names_of ops) else names_of ops

-- the greater of two keys, where there are two
abbrev pub greater : Option KeyValue → Option KeyValue → Option KeyValue
greater None b = b
greater (Some a) None = Some a
greater (Some a) (Some b) = Some (if key_le a b then b else a)

-- the key that an operation of the name carries
abbrev pub key_in_cell : List ℕ → Cell → Option KeyValue
key_in_cell name (Hits n node) = None
key_in_cell name (Execs n key term node) = if bytes_eq n name then Some key else None
key_in_cell name (Shifts n key term from to) = if bytes_eq n name then Some key else None

abbrev pub key_in : List ℕ → Operation → Option KeyValue
key_in name (Set n key) = if bytes_eq n name then Some key else None
key_in name (Count cell number) = key_in_cell name cell

-- the greatest key that an operation of the name carries
abbrev pub key_of : List ℕ → List Operation → Option KeyValue
key_of name [] = None
key_of name (op ∷ ops) = greater (key_in name op) (key_of name ops)

-- the greatest number of a cell, 0 where there is none
abbrev pub number_in : Cell → Operation → ℕ
number_in cell (Set name key) = 0
number_in cell (Count c number) = if same_cell c cell then number else 0

abbrev pub number_at : Cell → List Operation → ℕ
number_at cell [] = 0
number_at cell (op ∷ ops) = max (number_in cell op) (number_at cell ops)

-- the number of a cell of the key, if there is a key
abbrev pub at_key : Option KeyValue → (KeyValue → ℕ) → ℕ
at_key None f = 0
at_key (Some key) f = f key

-- the state of a set
unfoldable pub fold : List Operation → State
fold ops =
    record {
      names = names_of ops;
      key = λ name. key_of name ops;
      hits = λ name node. number_at (Hits name node) ops;
      execs = λ name term node. at_key (key_of name ops) (λ key. number_at (Execs name key term node) ops);
      shifts = λ name term from to. at_key (key_of name ops) (λ key. number_at (Shifts name key term from to) ops);
    }

-- where the first state is that of a set, the second is that of the set with the operation
abbrev pub Learns : State → State → Operation → Type 0
Learns v w op = (ops : List Operation) → v ≡ fold ops → w ≡ fold (op ∷ ops)

-- where two states are those of sets, the third is that of both sets together
abbrev pub IsUnion : State → State → State → Type 0
IsUnion v w both = (a b : List Operation) → v ≡ fold a → w ≡ fold b → both ≡ fold (a ++ b)

-- the greatest clock that operations carry
abbrev pub clock_in_cell : Cell → ℕ
clock_in_cell (Hits name node) = 0
clock_in_cell (Execs name key term node) = key.clock
clock_in_cell (Shifts name key term from to) = key.clock

abbrev pub clock_in : Operation → ℕ
clock_in (Set name key) = key.clock
clock_in (Count cell number) = clock_in_cell cell

abbrev pub clock_of : List Operation → ℕ
clock_of [] = 0
clock_of (op ∷ ops) = max (clock_in op) (clock_of ops)
