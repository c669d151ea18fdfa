-- What a write does to cells.
use Rattle.std.specs.Prelude.{◌≡◌, ◌≢◌, ◌≤◌, ℕ, max, true, false, Option, Some, None, IsSome, [], unwrap_or, Result, Ok, Err, OnOk, OnErr}
use Rattle.std.specs.Ordering.{nat_cmp}
use Rattle.std.specs.declared.cmp.Ordering.TheVariants.{Equal}
use Rattle.std.proofs.Common.{ap, arith, refl, sym, ◌∙◌, ⊎_elim}
use Rattle.std.proofs.lemmas.Bool.{cases_eq}
use Rattle.std.proofs.lemmas.Map.Lookups.{exact_unsigned}
use mathlib.Core.Bool.{false≢true}
use Rattle.lattice_laws.specs.Map.{IsStored, PutsOnly, RaisesOnly, stored_at, value_at}
use Rattle.lattice_laws.specs.Numbers.{NoneGreater, WritesNumber, numbers_order}
use Rattle.lattice_laws.specs.Order.{IsJoin}
use Rattle.lattice_laws.proofs.Joins.{copy_from_bottom}
use Rattle.counters.specs.Cells.{Cells, Rows, WritesCell, WritesRowCell, cell, row_cell}
use Rattle.counters.proofs.CellLemmas.{AreCells}

-- what follows from the fact of an outcome, and what holds at any outcome
pub OnOk-map : {A E : Type 0} (P Q : Type 0) (r : Result A E) → (P → Q) → OnOk r P → OnOk r Q
OnOk-map P Q (Ok x) f h = f h
OnOk-map P Q (Err e) f h = tt

pub OnErr-map : {A E : Type 0} (P Q : Type 0) (r : Result A E) → (P → Q) → OnErr r P → OnErr r Q
OnErr-map P Q (Ok x) f h = tt
OnErr-map P Q (Err e) f h = f h

pub OnErr-always : {A E : Type 0} (P : Type 0) (r : Result A E) → P → OnErr r P
OnErr-always P (Ok x) h = tt
OnErr-always P (Err e) h = h

-- keys that differ are not equal
apart : (node q : ℕ) → q ≢ node → nat_cmp node q ≢ Equal
apart node q ne same = ne (sym (exact_unsigned node q same))

-- a number that is written is the cell's
pub wrote_cell : (old new : Cells) (node number : ℕ) → WritesNumber old new node number → WritesCell old new node number
unfolding cell
wrote_cell old new node number wrote = record { this_cell = wrote.this_place; other_cells = wrote.other_places }

-- where it was as great, nothing changes
pub kept_cell : (cells : Cells) (node number : ℕ) → number ≤ cell cells node →
    WritesCell cells cells node (max (cell cells node) number)
kept_cell cells node number low = record { this_cell = omega arith; other_cells = λ q ne. refl }

-- nothing is held where there are no entries
pub empty_cell : (q : ℕ) → cell [] q ≡ 0
unfolding cell
empty_cell q = refl

-- a node without a row has 0 everywhere
pub absent_row_cell : (rows : Rows) (from to : ℕ) → (IsSome (stored_at nat_cmp rows from) → false ≡ true) →
    row_cell rows from to ≡ 0
unfolding row_cell
absent_row_cell rows from to none = by_entry (stored_at nat_cmp rows from) none
  where
    by_entry : (o : Option Cells) → (IsSome o → false ≡ true) → cell (unwrap_or o []) to ≡ 0
    by_entry None h = empty_cell to
    by_entry (Some held) h = absurd (false≢true (h refl))

-- the cells of a row that is there
pub found_row_cell : (rows : Rows) (from : ℕ) (held : Cells) → stored_at nat_cmp rows from ≡ Some held → (q : ℕ) →
    row_cell rows from q ≡ cell held q
unfolding row_cell
found_row_cell rows from held found q = ap (λ o. cell (unwrap_or o []) q) found

-- a row that is put has the same cells
put_row_cell : (rows : Rows) (from : ℕ) (left : Cells)
    → IsStored nat_cmp AreCells NoneGreater [] (stored_at nat_cmp rows from) left → (q : ℕ)
    → row_cell rows from q ≡ cell left q
unfolding cell row_cell
put_row_cell rows from left stored q = by_entry (stored_at nat_cmp rows from) stored
  where
    by_entry : (o : Option Cells) → IsStored nat_cmp AreCells NoneGreater [] o left →
        cell (unwrap_or o []) q ≡ cell left q
    by_entry None h = let below : cell left q ≤ 0 = h q in omega arith
    by_entry (Some held) h = ap (λ row. cell row q) h.0

-- and so has a row that is raised from nothing
raised_row_cell : (row new : Cells) → IsJoin AreCells NoneGreater [] row new → (q : ℕ) →
    cell new q ≡ cell row q
unfolding cell
raised_row_cell row new join q =
    let copy = copy_from_bottom numbers_order row new join in
    let above : cell row q ≤ cell new q = copy.above q in
    let below : cell new q ≤ cell row q = copy.below q in
    omega arith

raised_from_none : (old new : Rows) (from : ℕ) (row : Cells) → (IsSome (stored_at nat_cmp old from) → false ≡ true)
    → IsJoin AreCells NoneGreater (value_at nat_cmp [] old from) row
    (value_at nat_cmp [] new from)
    → (q : ℕ) → row_cell new from q ≡ cell row q
unfolding row_cell
raised_from_none old new from row none join q = by_entry (stored_at nat_cmp old from) none join
  where
    by_entry : (o : Option Cells) → (IsSome o → false ≡ true)
        → IsJoin AreCells NoneGreater (unwrap_or o []) row (value_at nat_cmp [] new from)
        → cell (value_at nat_cmp [] new from) q ≡ cell row q
    by_entry None h j = raised_row_cell row (value_at nat_cmp [] new from) j q
    by_entry (Some held) h j = absurd (false≢true (h refl))

-- other rows stay
other_row_cell : (old new : Rows) (f t : ℕ) → stored_at nat_cmp new f ≡ stored_at nat_cmp old f →
    row_cell new f t ≡ row_cell old f t
unfolding row_cell
other_row_cell old new f t same = ap (λ o. cell (unwrap_or o []) t) same

-- a place of another row, or of this one at another node
other_place : (from to f t : ℕ) (P : Type 0) → ((f ≡ from) × (t ≡ to) → ⊥) → (f ≢ from → P) → (f ≡ from → t ≢ to → P) →
    P
other_place from to f t P h other this = ⊎_elim (λ e. this e (λ g. h (e, g))) other (cases_eq f from)

-- a row in which a number was written is put
pub put_row : (old new : Rows) (from to number : ℕ) (held left : Cells) → stored_at nat_cmp old from ≡ Some held
    → PutsOnly nat_cmp AreCells NoneGreater [] old new from left
    → WritesCell held left to number → WritesRowCell old new from to number
put_row old new from to number held left found puts writes = record {
  this_cell = put_row_cell new from left puts.this_key to ∙ writes.this_cell;
  other_cells = λ f t h. other_place from to f t (row_cell new f t ≡ row_cell old f t) h
      (λ ne. other_row_cell old new f t (puts.other_keys f (apart from f ne)))
      (λ same ne.
      let here : row_cell new from t ≡ row_cell old from t =
      put_row_cell new from left puts.this_key t ∙ writes.other_cells t ne
      ∙ sym (found_row_cell old from held found t) in
      ap (λ x. row_cell new x t) same ∙ here ∙ ap (λ x. row_cell old x t) (sym same));
}

-- a row with one number is raised from nothing
pub raised_row : (old new : Rows) (from to number : ℕ) (row : Cells)
    → (IsSome (stored_at nat_cmp old from) → false ≡ true) → WritesCell [] row to number
    → RaisesOnly nat_cmp AreCells NoneGreater [] old new from row
    → WritesRowCell old new from to number
raised_row old new from to number row none writes raises =
    let all : (q : ℕ) → row_cell new from q ≡ cell row q = λ q. raised_from_none old new from row none raises.this_key
    q in
    record {
      this_cell = all to ∙ writes.this_cell;
      other_cells = λ f t h. other_place from to f t (row_cell new f t ≡ row_cell old f t) h
          (λ ne. other_row_cell old new f t (raises.other_keys f (apart from f ne)))
          (λ same ne.
          let here : row_cell new from t ≡ row_cell old from t = all t ∙ writes.other_cells t ne ∙ empty_cell t ∙
          sym (absent_row_cell old from t none) in
          ap (λ x. row_cell new x t) same ∙ here ∙ ap (λ x. row_cell old x t) (sym same));
    }
