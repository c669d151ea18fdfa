-- How matrices are ordered: at each name by the key, then by each cell.
use Rattle.std.proofs.Common.{refl}
use Rattle.std.specs.Prelude.{ℕ, List, [], Option}
use Rattle.std.specs.Ordering.{nat_cmp}
use Rattle.std.specs.Cmp.Lexicographic.{slice_cmp}
use Rattle.std.specs.declared.cmp.Ordering.{Ordering}
use Rattle.lattice_laws.specs.Order.{IsJoinOrder, order_through}
use Rattle.lattice_laws.specs.Lex.{HoldsOnly, LexOrder, lex_order}
use Rattle.lattice_laws.specs.Map.{IsMap, MapOrder, map_order}
use Rattle.lattice_laws.specs.Numbers.{AreNumbers, NoneGreater, numbers_order}
use Rattle.lattice_laws.specs.Pair.{AreBoth, PairOrder, pair_order}
use Rattle.counters.specs.Cells.{Cells, Shares, cell, no_shares}
use Rattle.stamp_register.specs.declared.key.Key.{Key}
use Rattle.stamp_register.specs.Keys.{key_value, key_rank}
use Rattle.stamp_register.specs.contracts.key.KeyOrd.TheImpl.Laws as key_laws
use Rattle.replica_state.specs.declared.matrix.Matrix.{Matrix}
use Rattle.replica_state.specs.Folds.{fold}
use Rattle.replica_state.specs.Reached.{IsReached}
use Rattle.replica_state.specs.declared.slot.Slot.{Slot}
use Rattle.replica_state.specs.Slots.{Budgets, no_slot, shown_slots}

abbrev pub cells_order : Cells → Cells → Type 0
cells_order = NoneGreater

abbrev pub are_cells : Cells → Type 0
are_cells = AreNumbers

abbrev pub shares_order : Shares → Shares → Type 0
shares_order = PairOrder cells_order (MapOrder nat_cmp cells_order [])

abbrev pub are_shares : Shares → Type 0
are_shares = AreBoth are_cells (IsMap nat_cmp are_cells cells_order [])

pub shares_laws : IsJoinOrder are_shares shares_order no_shares
shares_laws = pair_order numbers_order (map_order nat_cmp numbers_order)

abbrev pub budgets_order : Budgets → Budgets → Type 0
budgets_order = MapOrder nat_cmp shares_order no_shares

abbrev pub are_budgets : Budgets → Type 0
are_budgets = IsMap nat_cmp are_shares shares_order no_shares

abbrev pub key_cmp : Key → Key → Ordering
key_cmp a b = slice_cmp nat_cmp (key_rank (key_value a)) (key_rank (key_value b))

-- a key with budgets, or none
abbrev pub First : Type 0
First = Option (Key × Budgets)

abbrev pub first_order : First → First → Type 0
first_order = LexOrder key_cmp budgets_order

abbrev pub are_firsts : First → Type 0
are_firsts = HoldsOnly {S = Key} are_budgets

abbrev pub slots_order : Slot → Slot → Type 0
slots_order slot other = PairOrder first_order cells_order slot.parts other.parts

abbrev pub are_slots : Slot → Type 0
are_slots slot = AreBoth are_firsts are_cells slot.parts

pub slots_laws : IsJoinOrder are_slots slots_order no_slot
slots_laws = order_through (λ (slot : Slot). slot.parts) no_slot
    (pair_order (lex_order (key_laws.lawful).total (map_order nat_cmp shares_laws)) numbers_order)

-- slots of names
abbrev pub slots_map : List (List ℕ × Slot) → Type 0
slots_map = IsMap (slice_cmp nat_cmp) are_slots slots_order no_slot

abbrev pub IsMatrix : Matrix → Type 0
IsMatrix matrix = slots_map matrix.slots

abbrev pub IsMatrixBelow : Matrix → Matrix → Type 0
IsMatrixBelow matrix other = MapOrder (slice_cmp nat_cmp) slots_order no_slot matrix.slots other.slots

-- no slots come of no operations
pub nothing_reached : IsReached (shown_slots [])
unfolding shown_slots fold cell
nothing_reached = ∣ record { ops = []; formed = tt; state = refl } ∣₁

-- the matrix without names
abbrev pub no_matrix : Matrix
no_matrix = record { slots = []; reached = nothing_reached }

pub matrix_order : IsJoinOrder IsMatrix IsMatrixBelow no_matrix
matrix_order = order_through (λ (matrix : Matrix). matrix.slots) no_matrix (map_order (slice_cmp nat_cmp) slots_laws)
