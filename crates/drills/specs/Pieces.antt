-- What parts tell of one trace, or of one list.
use Rattle.std.specs.Prelude.{◌≡◌, ℕ, ◌==◌, Bool, List, [], ◌∷◌, ◌++◌, length, get_or, flat_map, if◌then◌else◌, Some}
use Rattle.node_calls.specs.Told.{Told}
use Rattle.drills.specs.Lines.{ReceiptTold}
use Rattle.drills.specs.Drills.{DrillTold}
use Rattle.drills.specs.Grammar.{Part, made, no_drill, of_list, of_trace}

abbrev pub entries_of : ℕ → Part → List Told
entries_of node (of_trace n from entries) = if n == node then entries else []
entries_of node (of_list n from receipts) = []

abbrev pub receipts_of : ℕ → Part → List ReceiptTold
receipts_of number (of_trace n from entries) = []
receipts_of number (of_list n from receipts) = if n == number then receipts else []

-- the trace of a node is what the parts have of it, one behind the other, and so is a list
pub record AreConcatenated (parts : List Part) (d : DrillTold) : Type 0 where
  pub traces : (node : ℕ) → get_or d.traces node [] ≡ flat_map (entries_of node) parts
  pub lists : (number : ℕ) → get_or d.lists number [] ≡ flat_map (receipts_of number) parts

-- a piece begins behind all that the parts before it have of its trace, or of its list
pub record BeginsBehind (before : List Part) (after : List Part) (d : DrillTold) (pieces : Bool) : Type 0 where
  pub traces : (node from : ℕ) → (entries : List Told) →
      made pieces no_drill (before ++ of_trace node (Some from) entries ∷ after) ≡ Some d
      → from ≡ length (flat_map (entries_of node) before)
  pub lists : (number from : ℕ) → (receipts : List ReceiptTold) →
      made pieces no_drill (before ++ of_list number (Some from) receipts ∷ after) ≡ Some d
      → from ≡ length (flat_map (receipts_of number) before)
