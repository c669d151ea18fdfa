-- The last row of each point.
use Rattle.std.specs.Prelude.{◌≡◌, ◌≢◌, ◌<◌, ℕ, List, Option, Some, slice_get}
use Rattle.std.specs.Map.{lookup}
use Rattle.std.specs.BTreeMap.{is_at}
use Rattle.std.specs.Ordering.{nat_cmp}
use Rattle.std.specs.Cmp.Lexicographic.{slice_cmp}
use Rattle.packed_trace.specs.declared.heads.Heads.{Heads}
use Rattle.packed_trace.specs.Packed.{RowTold}

unfoldable pub head_of : Heads → List ℕ → Option ℕ
head_of heads name = lookup (is_at (λ other. slice_cmp nat_cmp name other)) heads.rows.entries

-- a row stands at this place, and none behind it has its name
pub record IsLastAt (rows : List RowTold) (row : RowTold) (at : ℕ) : Type 0 where
  pub there : slice_get rows at ≡ Some row
  pub last : (later : ℕ) (other : RowTold) → at < later → slice_get rows later ≡ Some other → other.name ≢ row.name

-- a row is the last one of its point
abbrev pub IsLast : List RowTold → RowTold → Type 0
IsLast rows row = (at : ℕ) × IsLastAt rows row at

-- what is kept are the places of the last rows
abbrev pub AreHeads : Heads → List RowTold → Type 0
AreHeads heads rows = (row : RowTold) (at : ℕ) → IsLastAt rows row at → head_of heads row.name ≡ Some at
