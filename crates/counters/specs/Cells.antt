-- Numbers by node, 0 where there is none.
use Rattle.std.specs.Prelude.{◌≡◌, ◌≢◌, ℕ, ◌+◌, ◌-◌, ◌^◌, Bool, nat_lt, List, [], slice_index, ℤ, pos, ◌-ℤ◌}
use Rattle.std.specs.Ordering.{nat_cmp}
use Rattle.lattice_laws.specs.Map.{value_at}
use Rattle.lattice_laws.specs.Pair.{pair_of}
use Rattle.lattice_laws.specs.declared.pair.PairOf.{PairOf}
use Rattle.counters.specs.Budgets.{Budget}
use Rattle.counters.specs.Sums.{node_numbers, sum_below, sum_others}

-- a number for each node, by its place
abbrev pub Cells : Type 0
Cells = List ℕ

-- the greatest number of a cell
abbrev pub most : ℕ
most = 2 ^ 64 - 1

-- no cell can hold this number
abbrev pub is_too_great : ℕ → Bool
is_too_great number = nat_lt most number

-- the number of a node
unfoldable pub cell : Cells → ℕ → ℕ
cell cells node = slice_index cells node

-- new has the number at the node, and every other node's as in old
pub record WritesCell (old new : Cells) (node number : ℕ) : Type 0 where
  pub this_cell : cell new node ≡ number
  pub other_cells : (q : ℕ) → q ≢ node → cell new q ≡ cell old q

-- for each node a number for each node
abbrev pub Rows : Type 0
Rows = List (ℕ × Cells)

-- the number in a row at a node
unfoldable pub row_cell : Rows → ℕ → ℕ → ℕ
row_cell rows from to = cell (value_at nat_cmp [] rows from) to

-- what all rows have at a node, and what a node's row has at the others
abbrev pub came_to : Rows → ℕ → ℕ
came_to rows node = sum_below node_numbers (λ from. row_cell rows from node)

abbrev pub went_from : Rows → ℕ → ℕ
went_from rows node = sum_others node_numbers node (row_cell rows node)

-- new has the number at the place, and every other place's as in old
pub record WritesRowCell (old new : Rows) (from to number : ℕ) : Type 0 where
  pub this_cell : row_cell new from to ≡ number
  pub other_cells : (f t : ℕ) → ((f ≡ from) × (t ≡ to) → ⊥) → row_cell new f t ≡ row_cell old f t

-- what each node spent, and what each moved to each other and, at its own place, granted itself
abbrev pub Shares : Type 0
Shares = PairOf Cells Rows

-- nothing is spent, moved or granted
abbrev pub no_shares : Shares
no_shares = pair_of [] []

-- what a node spent
abbrev pub spent_cell : Shares → ℕ → ℕ
spent_cell shares node = cell shares.first node

-- what a node moved to another
abbrev pub moved_cell : Shares → ℕ → ℕ → ℕ
moved_cell shares from to = row_cell shares.second from to

-- what a node granted itself
abbrev pub granted_cell : Shares → ℕ → ℕ
granted_cell shares node = moved_cell shares node node

-- what came to a node, its grants among it, less what went from it to others and what it spent
abbrev pub balance_of : Shares → ℕ → ℤ
balance_of shares node =
    pos (came_to shares.second node) -ℤ pos (went_from shares.second node + spent_cell shares node)

-- new has the number as what the node spent, and all else as in old
pub record WritesSpent (old new : Shares) (node number : ℕ) : Type 0 where
  pub spent : WritesCell old.first new.first node number
  pub moved : (from to : ℕ) → moved_cell new from to ≡ moved_cell old from to

-- new has the number as what one node moved to another, or granted itself where they are one, and
-- all else as in old
pub record WritesMoved (old new : Shares) (from to number : ℕ) : Type 0 where
  pub moved : WritesRowCell old.second new.second from to number
  pub spent : (node : ℕ) → spent_cell new node ≡ spent_cell old node

-- the budget of a term of this count, which the setter had whole
abbrev pub budget_of : Shares → ℕ → ℕ → Budget
budget_of shares setter count =
    record { setter = setter; count = count; shifted = moved_cell shares; spent = spent_cell shares }
