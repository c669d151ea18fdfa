-- What changed of a replica with versions after one of them: what a message tells of it, and which
-- entries that makes, by the marks.
use Rattle.std.specs.Prelude.{◌≡◌, ◌≢◌, ℕ, ◌<◌, ◌≤◌, ◌↔◌, ◌==◌, ◌||◌, Bool, nat_lt, List, [], ◌∷◌, length, map, if◌then◌else◌, Option, Some, None, IsSome}
use Rattle.std.specs.List.{AllByRecursion, flat_map}
use Rattle.std.specs.BTreeMap.{IsOrdered}
use Rattle.stamp_register.specs.Keys.{KeyValue}
use Rattle.operations.specs.Operations.{Operation, IsIn, name_in}
use Rattle.replica_state.specs.States.{State}
use Rattle.replica_state.specs.Folds.{fold}
use Rattle.replica_state.specs.Points.{Held}
use Rattle.operations.specs.Counts.{counted_cmp, is_hits}
use Rattle.replica_state.specs.Cells.{held_at}
use Rattle.operations.specs.declared.counted.Counted.{Counted}
use Rattle.operations.specs.declared.counted.Counted.TheVariants.{Hits, Execs, Shifts}
use Rattle.delta_exchange.specs.declared.marks.NameMarks.{NameMarks}
use Rattle.delta_exchange.specs.declared.marks.Marks.{Marks}
use Rattle.delta_exchange.specs.PassMarks.{pass_mark, last_mark}
use Rattle.delta_exchange.specs.Marks.{cell_change}
use Rattle.message_format.specs.Messages.{EntryValue, MessageValue, operations_in}
use Rattle.message_format.specs.Spelling.{IsMessage, Ascend, hit_place, exec_place, shift_place, grant_place, message_bytes, max_message}
use Rattle.delta_exchange.specs.Cells.{cell_of}
use Rattle.message_format.specs.Limits.{max_nodes, max_names}
use Rattle.delta_exchange.specs.Wholes.{AreLawful}
use Rattle.delta_exchange.specs.Changes.{LastChanges, IsChangeSince}
use Rattle.delta_exchange.specs.Versions.{VersionedValue}

-- a state that one node of a cluster can tell another in a message
pub record CanBeTold (nodes from to : ℕ) (v : State) : Type 0 where
  pub few_nodes : nodes ≤ max_nodes
  pub sender : from < nodes
  pub receiver : to < nodes
  pub apart : to ≢ from
  pub lawful : (ops : List Operation) × (v ≡ fold ops) × AreLawful nodes ops
  pub few_names : length v.names ≤ max_names

-- its cells stand in order, none of them twice, and it tells what a node moved to itself as a grant
pub record IsInOrder (e : EntryValue) : Type 0 where
  pub hits : Ascend (map hit_place e.hits)
  pub execs : Ascend (map exec_place e.execs)
  pub shifts : Ascend (map shift_place e.shifts)
  pub apart : AllByRecursion (λ c. c.2 ≢ c.1) e.shifts
  pub grants : Ascend (map grant_place e.grants)

-- a change after a version, of a name that has a key: one without a key has no entry in a message
abbrev pub IsToldSince : State → LastChanges → ℕ → Operation → Type 0
IsToldSince v last base op = IsSome (v.key (name_in op)) × IsChangeSince v last base op

-- a message that tells just what changed after a version, which is its base, of the names that have a
-- key: each once, in order
pub record TellsSince (from to base : ℕ) (v : VersionedValue) (m : MessageValue) : Type 0 where
  pub sender : m.from ≡ from
  pub receiver : m.to ≡ to
  pub since : m.base ≡ base
  pub upto : m.upto ≡ v.version
  pub ack : m.ack ≡ v.known to
  pub names_ascend : Ascend (map (λ e. e.name) m.entries)
  pub in_order : AllByRecursion IsInOrder m.entries
  pub changes : (op : Operation) → IsIn op (operations_in m) ↔ IsToldSince v.state v.last base op

-- such a message of a state that can be told: it can be written, and tells all that changed
pub record IsMessageSince (nodes from to base : ℕ) (v : VersionedValue) (m : MessageValue) : Type 0 where
  pub sender : m.from ≡ from
  pub receiver : m.to ≡ to
  pub since : m.base ≡ base
  pub upto : m.upto ≡ v.version
  pub ack : m.ack ≡ v.known to
  pub spelled : IsMessage nodes m
  pub short : length (message_bytes m) ≤ max_message
  pub changes : (op : Operation) → IsIn op (operations_in m) ↔ IsChangeSince v.state v.last base op

-- ---- the same as the code has it

-- what is counted, as a cell of its list, where it isn't 0
abbrev pub hit_of : Held → Counted → List (ℕ × ℕ)
hit_of h (Hits node) = cell_of (h.number (Hits node)) (node, h.number (Hits node))
hit_of h (Execs term node) = []
hit_of h (Shifts term from to) = []

abbrev pub exec_of : Held → Counted → List (ℕ × ℕ × ℕ)
exec_of h (Hits node) = []
exec_of h (Execs term node) = cell_of (h.number (Execs term node)) (term, node, h.number (Execs term node))
exec_of h (Shifts term from to) = []

abbrev pub shift_of : Held → Counted → List (ℕ × ℕ × ℕ × ℕ)
shift_of h (Hits node) = []
shift_of h (Execs term node) = []
shift_of h (Shifts term from to) =
    if to == from then [] else cell_of (h.number (Shifts term from to)) (term, from, to, h.number (Shifts term from to))

-- what a node moved to itself, as its grant
abbrev pub grant_of : Held → Counted → List (ℕ × ℕ × ℕ)
grant_of h (Hits node) = []
grant_of h (Execs term node) = []
grant_of h (Shifts term from to) =
    if to == from then cell_of (h.number (Shifts term from from)) (term, from, h.number (Shifts term from from)) else []

-- the version that last changed what has this mark beside it
abbrev pub change_of : NameMarks → Counted × ℕ → ℕ
change_of marks c = cell_change (is_hits c.0) (last_mark (pass_mark marks.passes c.0) c.1) marks.key

-- what changed after a version
abbrev pub later : {C : Type 0} → NameMarks → ℕ → (Counted → List C) → Counted × ℕ → List C
later marks base f c = if nat_lt base (change_of marks c) then f c.0 else []

abbrev pub hits_since : Held → ℕ → NameMarks → List (ℕ × ℕ)
hits_since h base marks = flat_map (later marks base (hit_of h)) marks.cells.entries

abbrev pub execs_since : Held → ℕ → NameMarks → List (ℕ × ℕ × ℕ)
execs_since h base marks = flat_map (later marks base (exec_of h)) marks.cells.entries

abbrev pub shifts_since : Held → ℕ → NameMarks → List (ℕ × ℕ × ℕ × ℕ)
shifts_since h base marks = flat_map (later marks base (shift_of h)) marks.cells.entries

abbrev pub grants_since : Held → ℕ → NameMarks → List (ℕ × ℕ × ℕ)
grants_since h base marks = flat_map (later marks base (grant_of h)) marks.cells.entries

abbrev pub entry_since : Held → List ℕ → KeyValue → ℕ → NameMarks → EntryValue
entry_since h name key base marks = record {
  name = name;
  key = key;
  hits = hits_since h base marks;
  execs = execs_since h base marks;
  shifts = shifts_since h base marks;
  grants = grants_since h base marks;
}

-- whether an entry tells a cell
abbrev pub tells_cells : EntryValue → Bool
tells_cells e =
    nat_lt 0 (length e.hits) || (nat_lt 0 (length e.execs)
    || (nat_lt 0 (length e.shifts) || nat_lt 0 (length e.grants)))

-- an entry, where its key changed or it tells a cell
abbrev pub entry_told : ℕ → NameMarks → EntryValue → List EntryValue
entry_told base marks e = if nat_lt base marks.key || tells_cells e then e ∷ [] else []

abbrev pub entry_under : Held → List ℕ → Option KeyValue → ℕ → NameMarks → List EntryValue
entry_under h name None base marks = []
entry_under h name (Some key) base marks = entry_told base marks (entry_since h name key base marks)

-- nothing of a name changed after the latest of its marks
abbrev pub entry_marked : State → ℕ → List ℕ × NameMarks → List EntryValue
entry_marked v base n = if nat_lt base n.1.latest then entry_under (held_at v n.0) n.0 (v.key n.0) base n.1 else []

abbrev pub entries_since : State → ℕ → Marks → List EntryValue
entries_since v base marks = flat_map (entry_marked v base) marks.names.entries

-- the marks of a name with a key are in order, if one is after this version
abbrev pub AreCellsOrdered : State → ℕ → List ℕ × NameMarks → Type 0
AreCellsOrdered v base n = base < n.1.latest → IsSome (v.key n.0) → IsOrdered counted_cmp n.1.cells
