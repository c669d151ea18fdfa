-- What the order and the joins of counters and budgets say of their cells.
use Rattle.std.specs.Prelude.{◌≡◌, ◌↔◌, ◌≤◌, ℕ, max}
use Rattle.lattice_laws.specs.Order.{IsJoin}
use Rattle.counters.specs.Cells.{Cells, Shares, cell, moved_cell, spent_cell}

-- no cell is greater
abbrev pub NoCellGreater : Cells → Cells → Type 0
NoCellGreater x y = (node : ℕ) → cell x node ≤ cell y node

abbrev pub NoShareGreater : Shares → Shares → Type 0
NoShareGreater x y =
    ((node : ℕ) → spent_cell x node ≤ spent_cell y node)
    × ((from to : ℕ) → moved_cell x from to ≤ moved_cell y from to)

-- each cell of j is the greater one of those of x and y
abbrev pub HasGreaterCells : Cells → Cells → Cells → Type 0
HasGreaterCells x y j = (node : ℕ) → cell j node ≡ max (cell x node) (cell y node)

abbrev pub HasGreaterShares : Shares → Shares → Shares → Type 0
HasGreaterShares x y j =
    ((node : ℕ) → spent_cell j node ≡ max (spent_cell x node) (spent_cell y node))
    × ((from to : ℕ) → moved_cell j from to ≡ max (moved_cell x from to) (moved_cell y from to))

-- one is below another where no cell is greater
abbrev pub GoesByCell : (Cells → Cells → Type 0) → Type 0
GoesByCell order = (x y : Cells) → order x y ↔ NoCellGreater x y

abbrev pub GoesByShare : (Shares → Shares → Type 0) → Type 0
GoesByShare order = (x y : Shares) → order x y ↔ NoShareGreater x y

-- a join has the greater cells
abbrev pub JoinsByCell : (Cells → Type 0) → (Cells → Cells → Type 0) → Type 0
JoinsByCell admitted order = (x y j : Cells) → IsJoin admitted order x y j → HasGreaterCells x y j

abbrev pub JoinsByShare : (Shares → Type 0) → (Shares → Shares → Type 0) → Type 0
JoinsByShare admitted order = (x y j : Shares) → IsJoin admitted order x y j → HasGreaterShares x y j
