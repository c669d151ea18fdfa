-- What the order and the joins of counters and budgets say, cell by cell.
use Rattle.std.specs.Prelude.{◌≡◌, ℕ, [], max}
use Rattle.std.specs.Ordering.{nat_cmp}
use Rattle.std.proofs.Common.{arith, refl}
use Rattle.std.proofs.lemmas.Cmp.{nat_cmp_total}
use Rattle.lattice_laws.specs.Order.{IsJoin}
use Rattle.lattice_laws.specs.Map.{MapOrder, value_at}
use Rattle.lattice_laws.specs.Numbers.{NoneGreater, numbers_order}
use Rattle.lattice_laws.specs.Pair.{AreBoth, PairOrder}
use Rattle.lattice_laws.proofs.NumberJoins.{numbers_bottom, numbers_join, numbers_join_from}
use Rattle.lattice_laws.proofs.Parts.{join_at, join_first, join_second}
use Rattle.counters.specs.Cells.{Cells, Rows, Shares, cell, moved_cell, no_shares, row_cell, spent_cell}
use Rattle.counters.specs.Joins.{GoesByCell, GoesByShare, HasGreaterCells, HasGreaterShares, JoinsByCell, JoinsByShare}
use Rattle.counters.proofs.CellLemmas.{AreCells, AreRows}

-- the orders that the types have
abbrev pub CellsOrder : Cells → Cells → Type 0
CellsOrder = NoneGreater

abbrev pub RowsOrder : Rows → Rows → Type 0
RowsOrder = MapOrder nat_cmp CellsOrder []

abbrev pub SharesOrder : Shares → Shares → Type 0
SharesOrder = PairOrder CellsOrder RowsOrder

abbrev pub AreShares : Shares → Type 0
AreShares = AreBoth AreCells AreRows

-- one is below another where no cell is greater
pub cells_order : GoesByCell CellsOrder
unfolding cell
cells_order x y = (λ below. below, λ below. below)

pub shares_order : GoesByShare SharesOrder
unfolding cell row_cell
shares_order x y = (λ below. below, λ below. below)

-- the bottom has 0 in each cell
pub cells_bottom : (node : ℕ) → cell [] node ≡ 0
unfolding cell
cells_bottom node = refl

pub spent_bottom : (node : ℕ) → spent_cell no_shares node ≡ 0
spent_bottom node = cells_bottom node

pub moved_bottom : (from to : ℕ) → moved_cell no_shares from to ≡ 0
unfolding row_cell
moved_bottom from to = cells_bottom to

-- a join has the greater number in each cell
pub cells_join : JoinsByCell AreCells CellsOrder
unfolding cell
cells_join x y j join node = numbers_join x y j join node

rows_join : (x y j : Rows) → IsJoin AreRows RowsOrder x y j → (from to : ℕ) →
    row_cell j from to ≡ max (row_cell x from to) (row_cell y from to)
unfolding row_cell
rows_join x y j join from to =
    cells_join (value_at nat_cmp [] x from) (value_at nat_cmp [] y from) (value_at nat_cmp [] j from)
    (join_at nat_cmp_total numbers_order (λ cells h. numbers_bottom cells) x y j join from) to

pub shares_join : JoinsByShare AreShares SharesOrder
shares_join x y j join = (
  cells_join x.first y.first j.first (join_first AreCells CellsOrder AreRows RowsOrder x y j join),
  rows_join x.second y.second j.second (join_second AreCells CellsOrder AreRows RowsOrder x y j join),
)

-- and what has the greater number in each cell is a join
pub cells_join_from : (x y j : Cells) → AreCells x → AreCells y → AreCells j → HasGreaterCells x y j →
    IsJoin AreCells CellsOrder x y j
unfolding cell
cells_join_from x y j a b c greater = numbers_join_from x y j a b c greater

pub shares_join_from : (x y j : Shares) → AreShares x → AreShares y → AreShares j → HasGreaterShares x y j →
    IsJoin AreShares SharesOrder x y j
shares_join_from x y j a b c greater = record {
  admitted_first = a;
  admitted_second = b;
  admitted_join = c;
  above_first = (shares_order x j).1 (
    λ node. let here = greater.0 node in
        omega arith,
    λ from to. let here = greater.1 from to in omega arith,
  );
  above_second = (shares_order y j).1 (
    λ node. let here = greater.0 node in
        omega arith,
    λ from to. let here = greater.1 from to in omega arith,
  );
  least = λ u d l m. (shares_order j u).1 (
    λ node. let here = greater.0 node in let first = ((shares_order x u).0 l).0 node in
        let second = ((shares_order y u).0 m).0 node in omega arith,
    λ from to. let here = greater.1 from to in let first = ((shares_order x u).0 l).1 from to in
        let second = ((shares_order y u).0 m).1 from to in omega arith,
  );
}
