-- What the entries of a map of rows say of their cells, and how large all cells are together.
use Rattle.std.specs.Prelude.{◌≡◌, ◌≢◌, ◌<◌, ◌≤◌, ◌+◌, ◌*◌, ◌^◌, ◌==◌, ℕ, Bool, true, false, cond, List, [], ◌∷◌, length, slice_index}
use Rattle.std.specs.Ordering.{nat_cmp, eq_by_cmp}
use Rattle.std.specs.Map.{keys_of}
use Rattle.std.specs.List.{IsDistinct}
use Rattle.std.specs.List.Sorted.{IsStrictlySortedBy}
use Rattle.std.proofs.lemmas.Map.Keys.{IsDistinct-from_sorted, IsDistinct-tail}
use Rattle.std.proofs.Common.{arith, refl, subst, sym}
use Rattle.std.proofs.lemmas.Bool.{eqb-false, eqb-true}
use Rattle.std.proofs.lemmas.List.{get_or_past}
use Rattle.lattice_laws.specs.Map.{IsMap, admitted_at, value_at}
use Rattle.lattice_laws.specs.Numbers.{AreNumbers, NoneGreater, numbers_order}
use Rattle.counters.specs.Sums.{node_numbers, sum_below, sum_others}
use Rattle.counters.specs.Cells.{Cells, Rows, came_to, cell, row_cell, went_from}
use Rattle.counters.proofs.EntrySums.{sum_below-bound, sum-entry}
use Rattle.counters.proofs.SumLemmas.{sum_others-zero, sum-narrow, sum-zero}

-- the entries are those of a map
abbrev pub AreCells : Cells → Type 0
AreCells cells = AreNumbers cells

abbrev pub AreRows : Rows → Type 0
AreRows rows = IsMap nat_cmp AreCells NoneGreater [] rows

-- no two entries are of one node
abbrev pub AreApart : {J : Type 0} → List (ℕ × J) → Type 0
AreApart entries = IsDistinct (eq_by_cmp nat_cmp) (keys_of entries)

-- so are those of a map
pub apart-map : {J : Type 0} (entries : List (ℕ × J)) → IsStrictlySortedBy nat_cmp (keys_of entries) → AreApart entries
apart-map entries h = IsDistinct-from_sorted nat_cmp (keys_of entries) h

pub apart-tail : {J : Type 0} (k : ℕ) (v : J) (rest : List (ℕ × J)) → AreApart ((k, v) ∷ rest) → AreApart rest
apart-tail k v rest h = IsDistinct-tail (eq_by_cmp nat_cmp) k (keys_of rest) h

-- a node's number is a number of 8 bits
pub below-numbers : (k : ℕ) → k < 256 → k < node_numbers
unfolding node_numbers
below-numbers k h = h

numbers-is : node_numbers ≡ 256
unfolding node_numbers
numbers-is = refl

-- a row more adds its number at its own node
pub total_of_own-entry : (k : ℕ) (v : Cells) (rest : Rows) → k < 256 → AreApart ((k, v) ∷ rest)
    → sum_below node_numbers (λ node. row_cell ((k, v) ∷ rest) node node)
    ≡ cell v k + sum_below node_numbers (λ node. row_cell rest node node)
unfolding cell row_cell
total_of_own-entry k v rest below apart = sum-entry [] node_numbers (λ q (held : Cells). cell held q) (λ q. refl) k v
    rest (below-numbers k below) apart

-- what a test for one node chooses
pub chosen-same : (i k n m : ℕ) → i ≡ k → cond (i == k) n m ≡ n
chosen-same i k n m same = at (i == k) refl
  where
    at : (t : Bool) → (i == k) ≡ t → cond t n m ≡ n
    at true e = refl
    at false e = absurd (eqb-false i k e same)

pub chosen-other : (i k n m : ℕ) → i ≢ k → cond (i == k) n m ≡ m
chosen-other i k n m ne = at (i == k) refl
  where
    at : (t : Bool) → (i == k) ≡ t → cond t n m ≡ m
    at true e = absurd (ne (eqb-true i k e))
    at false e = refl

-- each number is one of 64 bits
pub cell-bound : (cells : Cells) → AreCells cells → (q : ℕ) → cell cells q < 2 ^ 64
unfolding cell
cell-bound cells h q = h.small q

pub row_cell-bound : (rows : Rows) → AreRows rows → (from to : ℕ) → row_cell rows from to < 2 ^ 64
unfolding row_cell
row_cell-bound rows h from to =
    cell-bound (value_at nat_cmp [] rows from)
    (admitted_at nat_cmp AreCells NoneGreater [] numbers_order rows h from) to

-- beyond the last place that is kept there is none
pub cell-past : (cells : Cells) (node : ℕ) → length cells ≤ node → cell cells node ≡ 0
unfolding cell
cell-past cells node past = get_or_past cells node 0 past

-- a number that is read is the node's
pub cell-read : (cells : Cells) (node : ℕ) → slice_index cells node ≡ cell cells node
unfolding cell
cell-read cells node = refl

-- the places that are kept add up to all
pub total-kept : (cells : Cells) → AreCells cells →
    sum_below node_numbers (cell cells) ≡ sum_below (length cells) (cell cells)
total-kept cells h = sum-narrow (length cells) node_numbers (cell cells)
    (subst (λ n. length cells ≤ n) (sym numbers-is) h.few) (cell-past cells)

-- and those before a place are few
pub total-below : (cells : Cells) → AreCells cells → (n : ℕ) → n ≤ 256 → sum_below n (cell cells) ≤ 256 * 2 ^ 64
total-below cells h n few =
    let most = sum_below-bound n (2 ^ 64) (cell cells) (λ i. let here = cell-bound cells h i in omega arith) in
    let wide : n * 2 ^ 64 ≤ 256 * 2 ^ 64 = omega (arith, few) in
    omega arith

-- so all of them fit 128 bits
bound : (f : ℕ → ℕ) → ((i : ℕ) → f i < 2 ^ 64) → sum_below node_numbers f ≤ 256 * 2 ^ 64
bound f h = subst (λ (n : ℕ). sum_below node_numbers f ≤ n * 2 ^ 64) numbers-is
    (sum_below-bound node_numbers (2 ^ 64) f (λ i. let here = h i in omega arith))

bound-others : (node : ℕ) (f : ℕ → ℕ) → ((i : ℕ) → f i < 2 ^ 64) → sum_others node_numbers node f ≤ 256 * 2 ^ 64
bound-others node f h = bound (λ j. cond (j == node) 0 (f j)) (λ j. at (j == node) (h j))
  where
    at : (t : Bool) {n : ℕ} → n < 2 ^ 64 → cond t 0 n < 2 ^ 64
    at true h = omega arith
    at false h = h

pub total-bound : (cells : Cells) → AreCells cells → sum_below node_numbers (cell cells) ≤ 256 * 2 ^ 64
total-bound cells h = bound (cell cells) (cell-bound cells h)

pub total_of_others-bound : (node : ℕ) (cells : Cells) → AreCells cells →
    sum_others node_numbers node (cell cells) ≤ 256 * 2 ^ 64
total_of_others-bound node cells h = bound-others node (cell cells) (cell-bound cells h)

pub total_of_own-bound : (rows : Rows) → AreRows rows → sum_below node_numbers (λ node. row_cell rows node node) ≤ 256 *
    2 ^ 64
total_of_own-bound rows h = bound (λ node. row_cell rows node node) (λ node. row_cell-bound rows h node node)

pub came_to-bound : (node : ℕ) (rows : Rows) → AreRows rows → came_to rows node ≤ 256 * 2 ^ 64
came_to-bound node rows h = bound (λ from. row_cell rows from node) (λ from. row_cell-bound rows h from node)

pub went_from-bound : (node : ℕ) (rows : Rows) → AreRows rows → went_from rows node ≤ 256 * 2 ^ 64
went_from-bound node rows h = bound-others node (row_cell rows node) (λ to. row_cell-bound rows h node to)

-- nothing is left where no entries are
pub total_of_others-empty : (node : ℕ) → sum_others node_numbers node (cell []) ≡ 0
unfolding cell
total_of_others-empty node = sum_others-zero node_numbers node (λ q. 0) (λ q. refl)

pub total_of_own-empty : sum_below node_numbers (λ node. row_cell [] node node) ≡ 0
unfolding cell row_cell
total_of_own-empty = sum-zero node_numbers (λ q. 0) (λ q. refl)

pub came_to-empty : (node : ℕ) → came_to [] node ≡ 0
unfolding cell row_cell
came_to-empty node = sum-zero node_numbers (λ q. 0) (λ q. refl)

pub went_from-empty : (node : ℕ) → went_from [] node ≡ 0
unfolding cell row_cell
went_from-empty node = sum_others-zero node_numbers node (λ q. 0) (λ q. refl)
