-- When each key and each cell last changed, as the code keeps it: the marks of each name.
use Rattle.std.specs.Prelude.{ℕ, ◌≤◌, ◌==◌, max, IsTrue, Bool, not, false, true, ◌&&◌, List, if◌then◌else◌, Option, Some, None, is_some, option_map}
use Rattle.std.specs.Option.{unwrap_or}
use Rattle.std.specs.Str.{bytes_eq}
use Rattle.std.specs.Map.{lookup}
use Rattle.std.specs.BTreeMap.{is_at}
use Rattle.std.specs.Ordering.{nat_cmp}
use Rattle.std.specs.Cmp.Lexicographic.{slice_cmp}
use Rattle.operations.specs.declared.counted.Counted.{Counted}
use Rattle.operations.specs.Counts.{same_counted, counted_cmp, is_hits}
use Rattle.delta_exchange.specs.declared.marks.NameMarks.{NameMarks}
use Rattle.delta_exchange.specs.declared.marks.Marks.{Marks}
use Rattle.delta_exchange.specs.PassMarks.{pass_mark, last_mark}
use Rattle.delta_exchange.specs.Changes.{LastChanges}

-- the mark of a cell among those of a name, if it has one: that of a pass, where one gave it
abbrev pub cell_in : NameMarks → Counted → Option ℕ
cell_in marks c =
    option_map (last_mark (pass_mark marks.passes c)) (lookup (is_at (counted_cmp c)) marks.cells.entries)

-- whether a name's marks have one of what is counted, where something is
abbrev pub has_cell : NameMarks → Option Counted → Bool
has_cell marks None = true
has_cell marks (Some c) = is_some (lookup (is_at (counted_cmp c)) marks.cells.entries)

-- the marks of a name, if it has any; what isn't there is 0
abbrev pub marks_at : List (List ℕ × NameMarks) → List ℕ → Option NameMarks
marks_at names name = lookup (is_at (slice_cmp nat_cmp name)) names

abbrev pub latest_of : Option NameMarks → ℕ
latest_of None = 0
latest_of (Some marks) = marks.latest

abbrev pub key_of : Option NameMarks → ℕ
key_of None = 0
key_of (Some marks) = marks.key

abbrev pub cell_of : Option NameMarks → Counted → ℕ
cell_of None c = 0
cell_of (Some marks) c = unwrap_or (cell_in marks c) 0

abbrev pub is_room : Option NameMarks → Option Counted → Bool
is_room None c = false
is_room (Some marks) c = has_cell marks c

-- of each name its key's mark, the marks of its cells, and one that is as great as all of them
pub record MarksValue : Type 0 where
  pub latest : List ℕ → ℕ
  pub key : List ℕ → ℕ
  pub cell : List ℕ → Counted → ℕ

unfoldable pub marks_value : Marks → MarksValue
marks_value marks =
    record {
      latest = λ name. latest_of (marks_at marks.names.entries name);
      key = λ name. key_of (marks_at marks.names.entries name);
      cell = λ name c. cell_of (marks_at marks.names.entries name) c;
    }

-- whether there is room for the mark of a name's key and, where something is counted, of its cell
unfoldable pub has_room : Marks → List ℕ → Option Counted → Bool
has_room marks name c = is_room (marks_at marks.names.entries name) c

-- what had room has it still
abbrev pub KeepsRoom : Marks → Marks → Type 0
KeepsRoom m n = (name : List ℕ) (c : Option Counted) → IsTrue (has_room m name c) → IsTrue (has_room n name c)

abbrev pub is_of : Option Counted → Counted → Bool
is_of None c = false
is_of (Some counted) c = same_counted counted c

-- with a version as the mark of a name's key, where the key is new, and of what is counted of the name
unfoldable pub with_mark : List ℕ → Bool → Option Counted → ℕ → MarksValue → MarksValue
with_mark name new_key counted version m =
    record {
      latest = λ n. if bytes_eq name n then version else m.latest n;
      key = λ n. if bytes_eq name n && new_key then version else m.key n;
      cell = λ n c. if bytes_eq name n && is_of counted c then version else m.cell n c;
    }

-- with a version as the mark of a name's new key, and none of the cells of the old one
unfoldable pub with_new_key : List ℕ → ℕ → MarksValue → MarksValue
with_new_key name version m =
    record {
      latest = λ n. if bytes_eq name n then version else m.latest n;
      key = λ n. if bytes_eq name n then version else m.key n;
      cell = λ n c. if bytes_eq name n && not (is_hits c) then 0 else m.cell n c;
    }

-- no mark is above the version
pub record AreUpto (m : MarksValue) (version : ℕ) : Type 0 where
  pub key : (name : List ℕ) → m.key name ≤ m.latest name
  pub cell : (name : List ℕ) (c : Counted) → m.cell name c ≤ m.latest name
  pub latest : (name : List ℕ) → m.latest name ≤ version

-- a hit cell changed with its own mark; a cell of a key with its own or the key's, if it has one of its own
abbrev pub cell_change : Bool → ℕ → ℕ → ℕ
cell_change hits own key = if hits then own else (if own == 0 then 0 else max own key)

unfoldable pub last_changes : MarksValue → LastChanges
last_changes m = record { key = m.key; cell = λ name c. cell_change (is_hits c) (m.cell name c) (m.key name) }
