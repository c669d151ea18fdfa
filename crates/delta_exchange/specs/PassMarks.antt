-- The marks that passes at one node gave, as the code keeps them beside those of all cells of a name.
use Rattle.std.specs.Prelude.{ℕ, ◌≢◌, ◌==◌, ◌&&◌, Bool, false, IsTrue, List, if◌then◌else◌, Option, Some, None, is_some, nat_lt, slice_get}
use Rattle.std.specs.Option.{unwrap_or}
use Rattle.std.specs.Map.{lookup}
use Rattle.std.specs.BTreeMap.{is_at}
use Rattle.actions.specs.Limits.{max_terms}
use Rattle.operations.specs.Counts.{counted_cmp}
use Rattle.operations.specs.declared.counted.Counted.{Counted}
use Rattle.operations.specs.declared.counted.Counted.TheVariants.{Hits, Execs, Shifts}
use Rattle.delta_exchange.specs.declared.pass_marks.PassMarks.{PassMarks}

-- whether these are the marks of a node
abbrev pub is_node : Option ℕ → ℕ → Bool
is_node None node = false
is_node (Some own) node = own == node

-- the mark that a pass gave a cell, 0 where none did
abbrev pub pass_mark : PassMarks → Counted → ℕ
pass_mark p (Hits node) = if is_node p.node node then p.hits else 0
pass_mark p (Execs term node) = if is_node p.node node then unwrap_or (slice_get p.execs term) 0 else 0
pass_mark p (Shifts term from to) = 0

-- whether there is a place for the mark of a cell
abbrev pub has_place : PassMarks → Counted → Bool
has_place p (Hits node) = is_node p.node node
has_place p (Execs term node) = is_node p.node node && nat_lt term max_terms
has_place p (Shifts term from to) = false

-- the last mark of a cell: the one that a pass gave, and where none did its other one
abbrev pub last_mark : ℕ → ℕ → ℕ
last_mark pass mark = if pass == 0 then mark else pass

-- each cell that a pass marked is among these
abbrev pub AreAmong : List (Counted × ℕ) → PassMarks → Type 0
AreAmong cells p = (c : Counted) → pass_mark p c ≢ 0 → IsTrue (is_some (lookup (is_at (counted_cmp c)) cells))
