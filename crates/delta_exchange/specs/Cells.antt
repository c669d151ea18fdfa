-- The cells of a state that aren't 0, in the order in which a message tells them, and its keys.
use Rattle.std.specs.Prelude.{ℕ, zero, suc, ◌==◌, ◌<◌, ◌^◌, List, [], ◌∷◌, ◌++◌, length, slice_get, if◌then◌else◌, Option, Some, None, is_some}
use Rattle.std.specs.List.{AllByRecursion}
use Rattle.actions.specs.Limits.{max_terms}
use Rattle.stamp_register.specs.Keys.{KeyValue}
use Rattle.operations.specs.Operations.{count_of}
use Rattle.replica_state.specs.States.{State, granted_in}
use Rattle.message_format.specs.Messages.{EntryValue}

-- the lists of the numbers below one, one after the other
unfoldable pub each_below : {C : Type 0} → (ℕ → List C) → ℕ → List C
each_below f zero = []
each_below f (suc n) = each_below f n ++ f n

-- a cell with this number: 0 is none
abbrev pub cell_of : {C : Type 0} → ℕ → C → List C
cell_of zero c = []
cell_of (suc n) c = c ∷ []

abbrev pub hit_cells : State → List ℕ → ℕ → List (ℕ × ℕ)
hit_cells v name nodes = each_below (λ node. cell_of (v.hits name node) (node, v.hits name node)) nodes

-- what is counted of a term, node by node
abbrev pub term_row : (ℕ → ℕ → ℕ) → ℕ → ℕ → List (ℕ × ℕ × ℕ)
term_row number nodes term = each_below (λ node. cell_of (number term node) (term, node, number term node)) nodes

-- of a term that the key doesn't count there is nothing
abbrev pub term_row_of : (ℕ → ℕ → ℕ) → KeyValue → ℕ → ℕ → List (ℕ × ℕ × ℕ)
term_row_of number key nodes term = if is_some (count_of key term) then term_row number nodes term else []

abbrev pub term_cells : (ℕ → ℕ → ℕ) → KeyValue → ℕ → List (ℕ × ℕ × ℕ)
term_cells number key nodes = each_below (term_row_of number key nodes) max_terms

-- executions, and what was granted
abbrev pub exec_cells : State → List ℕ → KeyValue → ℕ → List (ℕ × ℕ × ℕ)
exec_cells v name key nodes = term_cells (v.execs name) key nodes

abbrev pub grant_cells : State → List ℕ → KeyValue → ℕ → List (ℕ × ℕ × ℕ)
grant_cells v name key nodes = term_cells (granted_in v name) key nodes

-- what one node moved to another; what it moved to itself is told as its grant
abbrev pub shift_cell : State → List ℕ → ℕ → ℕ → ℕ → List (ℕ × ℕ × ℕ × ℕ)
shift_cell v name term from to =
    if to == from then [] else cell_of (v.shifts name term from to) (term, from, to, v.shifts name term from to)

-- what a node moved, by the node that it moved it to
abbrev pub shift_row : State → List ℕ → ℕ → ℕ → ℕ → List (ℕ × ℕ × ℕ × ℕ)
shift_row v name nodes term from = each_below (shift_cell v name term from) nodes

abbrev pub shift_rows : State → List ℕ → ℕ → ℕ → List (ℕ × ℕ × ℕ × ℕ)
shift_rows v name nodes term = each_below (shift_row v name nodes term) nodes

abbrev pub shift_rows_of : State → List ℕ → KeyValue → ℕ → ℕ → List (ℕ × ℕ × ℕ × ℕ)
shift_rows_of v name key nodes term = if is_some (count_of key term) then shift_rows v name nodes term else []

abbrev pub shift_cells : State → List ℕ → KeyValue → ℕ → List (ℕ × ℕ × ℕ × ℕ)
shift_cells v name key nodes = each_below (shift_rows_of v name key nodes) max_terms

-- what is held of a name under its key
abbrev pub entry_of : State → ℕ → List ℕ → KeyValue → EntryValue
entry_of v nodes name key = record {
  name = name;
  key = key;
  hits = hit_cells v name nodes;
  execs = exec_cells v name key nodes;
  shifts = shift_cells v name key nodes;
  grants = grant_cells v name key nodes;
}

-- a name that has no key has no entry
abbrev pub entry_under : State → ℕ → List ℕ → Option KeyValue → List EntryValue
entry_under v nodes name None = []
entry_under v nodes name (Some key) = entry_of v nodes name key ∷ []

abbrev pub entry_at : State → ℕ → Option (List ℕ) → List EntryValue
entry_at v nodes None = []
entry_at v nodes (Some name) = entry_under v nodes name (v.key name)

abbrev pub entries_of : State → ℕ → List EntryValue
entries_of v nodes = each_below (λ index. entry_at v nodes (slice_get v.names index)) (length v.names)

-- ---- numbers of 64 bits

abbrev pub HitsFit : List (ℕ × ℕ) → Type 0
HitsFit cells = AllByRecursion (λ c. c.1 < 2 ^ 64) cells

abbrev pub ExecsFit : List (ℕ × ℕ × ℕ) → Type 0
ExecsFit cells = AllByRecursion (λ c. c.2 < 2 ^ 64) cells

abbrev pub ShiftsFit : List (ℕ × ℕ × ℕ × ℕ) → Type 0
ShiftsFit cells = AllByRecursion (λ c. c.3 < 2 ^ 64) cells

abbrev pub EntryFits : EntryValue → Type 0
EntryFits e = HitsFit e.hits × ExecsFit e.execs × ShiftsFit e.shifts × ExecsFit e.grants

abbrev pub EntriesFit : List EntryValue → Type 0
EntriesFit es = AllByRecursion EntryFits es
