-- What can be known of the points of a cluster: settings, hits, executions, and shifts and grants of
-- rights.
use Rattle.std.specs.Prelude.{◌≡◌, ◌≢◌, ℕ, ◌≤◌, Bool, false, ◌==◌, ◌&&◌, List, [], ◌∷◌, ◌⊎◌, Option, Some, None, is_some, slice_get, IsTrue}
use Rattle.std.specs.Str.{bytes_eq}
use Rattle.actions.specs.Value.{TermValue}
use Rattle.stamp_register.specs.Keys.{KeyValue, key_value, same_key, terms_set}
use Rattle.operations.specs.declared.op.Op.{Op}
use Rattle.operations.specs.declared.op.Op.TheVariants as ops

-- what a hit, an execution or a shift counts: all of it but its number. What a node granted itself
-- beyond a count is what it shifted to itself
pub data Cell : Type 0 where
  Hits : (name : List ℕ) (node : ℕ) → Cell
  Execs : (name : List ℕ) (key : KeyValue) (term node : ℕ) → Cell
  Shifts : (name : List ℕ) (key : KeyValue) (term from to : ℕ) → Cell

-- a setting; or a hit, an execution or a shift, which is a cell and its number. Of two
-- operations of one cell the one with the greater number is the later
pub data Operation : Type 0 where
  Set : (name : List ℕ) (key : KeyValue) → Operation
  Count : (cell : Cell) (number : ℕ) → Operation

abbrev pub operation : Op → Operation
operation (ops.Set name key) = Set name (key_value key)
operation (ops.Hit name node number) = Count (Hits name node) number
operation (ops.Exec name key term node number) = Count (Execs name (key_value key) term node) number
operation (ops.Shift name key term from to total) = Count (Shifts name (key_value key) term from to) total
operation (ops.Grant name key term node total) = Count (Shifts name (key_value key) term node node) total

-- the node that wrote an operation: it set the key, passed the point, executed the term, or gave or
-- granted the rights
abbrev pub writer_of_cell : Cell → ℕ
writer_of_cell (Hits name node) = node
writer_of_cell (Execs name key term node) = node
writer_of_cell (Shifts name key term from to) = from

abbrev pub writer_of : Operation → ℕ
writer_of (Set name key) = key.node
writer_of (Count cell number) = writer_of_cell cell

-- the name that it tells of
abbrev pub name_in_cell : Cell → List ℕ
name_in_cell (Hits n node) = n
name_in_cell (Execs n key term node) = n
name_in_cell (Shifts n key term from to) = n

abbrev pub name_in : Operation → List ℕ
name_in (Set n key) = n
name_in (Count cell number) = name_in_cell cell

-- a set of operations is a list of which neither the order nor repeats matter
abbrev pub IsIn : {A : Type 0} → A → List A → Type 0
IsIn x [] = ⊥
IsIn x (y ∷ ys) = (x ≡ y) ⊎ IsIn x ys

unfoldable pub same_cell : Cell → Cell → Bool
same_cell (Hits n i) (Hits m j) = bytes_eq n m && (i == j)
same_cell (Execs n a k i) (Execs m b l j) = bytes_eq n m && (same_key a b && ((k == l) && (i == j)))
same_cell (Shifts n a k i o) (Shifts m b l j p) = bytes_eq n m && (same_key a b && ((k == l) && ((i == j) && (o == p))))
same_cell _ _ = false

-- the count of a term, if there is that term and it is counted
abbrev pub count_in : Option TermValue → Option ℕ
count_in None = None
count_in (Some term) = term.count

abbrev pub count_at : List TermValue → ℕ → Option ℕ
count_at terms k = count_in (slice_get terms k)

abbrev pub count_under : Option (List TermValue) → ℕ → Option ℕ
count_under None k = None
count_under (Some terms) k = count_at terms k

abbrev pub count_of : KeyValue → ℕ → Option ℕ
count_of key k = count_under (terms_set key.body) k

-- numbers are at least 1, and what is executed, shifted or granted is counted
abbrev pub IsWellFormed : Operation → Type 0
IsWellFormed (Set name key) = Unit {0}
IsWellFormed (Count (Hits name node) number) = 1 ≤ number
IsWellFormed (Count (Execs name key term node) number) = (1 ≤ number) × IsTrue (is_some (count_of key term))
IsWellFormed (Count (Shifts name key term from to) total) =
    (1 ≤ total) × IsTrue (is_some (count_of key term))

-- the code's shift goes to another node: what a node granted itself is a grant
abbrev pub ShiftsToAnother : Op → Type 0
ShiftsToAnother (ops.Shift name key term from to total) = from ≢ to
ShiftsToAnother _ = Unit {0}
