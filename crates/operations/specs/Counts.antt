-- What is counted and its order, and what an operation tells its name: a key or none, and a count or
-- none.
use Rattle.std.specs.Prelude.{ℕ, ◌==◌, ◌&&◌, Bool, true, false, List, [], ◌∷◌, Option, Some, None, option_map}
use Rattle.std.specs.Borrow.{Bor}
use Rattle.std.specs.Option.{option_copied}
use Rattle.std.specs.Ordering.{nat_cmp, on}
use Rattle.std.specs.declared.cmp.Ordering.{Ordering}
use Rattle.std.specs.Cmp.Lexicographic.{slice_cmp}
use Rattle.stamp_register.specs.Keys.{KeyValue, key_value}
use Rattle.stamp_register.specs.declared.key.Key.{Key}
use Rattle.operations.specs.declared.counted.Counted.{Counted}
use Rattle.operations.specs.declared.counted.Counted.TheVariants.{Hits, Execs, Shifts}
use Rattle.operations.specs.declared.counted.Count.{Count as Counting}
use Rattle.operations.specs.Operations as cells
use Rattle.operations.specs.Operations.{Operation, Set, Count}

abbrev pub same_counted : Counted → Counted → Bool
same_counted (Hits i) (Hits j) = i == j
same_counted (Execs k i) (Execs l j) = (k == l) && (i == j)
same_counted (Shifts k i o) (Shifts l j p) = (k == l) && ((i == j) && (o == p))
same_counted _ _ = false

-- what is counted, as numbers: first hits, then executions, then shifts, and each by its own numbers
abbrev pub place_of_counted : Counted → List ℕ
place_of_counted (Hits node) = 0 ∷ node ∷ 0 ∷ 0 ∷ []
place_of_counted (Execs term node) = 1 ∷ term ∷ node ∷ 0 ∷ []
place_of_counted (Shifts term from to) = 2 ∷ term ∷ from ∷ to ∷ []

-- the order of what is counted
abbrev pub counted_cmp : Counted → Counted → Ordering
counted_cmp = on place_of_counted (slice_cmp nat_cmp)

abbrev pub is_hits : Counted → Bool
is_hits (Hits node) = true
is_hits (Execs term node) = false
is_hits (Shifts term from to) = false

-- the term of which something is counted
abbrev pub term_of : Counted → Option ℕ
term_of (Hits node) = None
term_of (Execs term node) = Some term
term_of (Shifts term from to) = Some term

-- a key that is there or not
abbrev pub given_key : Option (Bor Key) → Option KeyValue
given_key key = option_map key_value (option_copied key)

-- what an operation tells its name
abbrev pub key_told : Operation → Option KeyValue
key_told (Set n key) = Some key
key_told (Count (cells.Hits n node) number) = None
key_told (Count (cells.Execs n key term node) number) = Some key
key_told (Count (cells.Shifts n key term from to) number) = Some key

abbrev pub count_told : Operation → Option Counting
count_told (Set n key) = None
count_told (Count (cells.Hits n node) number) = Some (record { counted = Hits node; number = number })
count_told (Count (cells.Execs n key term node) number) = Some (record { counted = Execs term node; number = number })
count_told (Count (cells.Shifts n key term from to) number) =
    Some (record { counted = Shifts term from to; number = number })

-- the operation of a name and its key that a setting or a count tells
abbrev pub cell_told : List ℕ → KeyValue → Counted → cells.Cell
cell_told name key (Hits node) = cells.Hits name node
cell_told name key (Execs term node) = cells.Execs name key term node
cell_told name key (Shifts term from to) = cells.Shifts name key term from to

abbrev pub operation_told : List ℕ → KeyValue → Option Counting → Operation
operation_told name key None = Set name key
operation_told name key (Some told) = Count (cell_told name key told.counted) told.number
