-- What differs between two states of a node, as a message: all of the later one that the earlier one doesn't tell.
use Rattle.std.specs.Prelude.{ℕ, ◌==◌, ◌&&◌, ◌||◌, not, Bool, false, List, [], ◌∷◌, if◌then◌else◌, Option, Some, None}
use Rattle.std.specs.List.{filter, flat_map}
use Rattle.stamp_register.specs.Keys.{KeyValue, same_key}
use Rattle.replica_state.specs.States.{State, granted_in}
use Rattle.message_format.specs.Messages.{EntryValue, MessageValue}
use Rattle.delta_exchange.specs.Cells.{entries_of}
use Rattle.delta_exchange.specs.Since.{tells_cells}

-- the key that is held, if any is, is this one
abbrev pub holds_key : Option KeyValue → KeyValue → Bool
holds_key None key = false
holds_key (Some held) key = same_key held key

-- whether a state tells this key of a name; these hits; or, under this key, these executions, shifts or grants
abbrev pub tells_key : State → List ℕ → KeyValue → Bool
tells_key v name key = holds_key (v.key name) key

abbrev pub tells_hits : State → List ℕ → ℕ × ℕ → Bool
tells_hits v name c = v.hits name c.0 == c.1

abbrev pub tells_execs : State → List ℕ → KeyValue → ℕ × ℕ × ℕ → Bool
tells_execs v name key c = tells_key v name key && (v.execs name c.0 c.1 == c.2)

abbrev pub tells_shifts : State → List ℕ → KeyValue → ℕ × ℕ × ℕ × ℕ → Bool
tells_shifts v name key c = tells_key v name key && (v.shifts name c.0 c.1 c.2 == c.3)

abbrev pub tells_grants : State → List ℕ → KeyValue → ℕ × ℕ × ℕ → Bool
tells_grants v name key c = tells_key v name key && (granted_in v name c.0 c.1 == c.2)

-- an entry with just those of its cells that a state doesn't tell
abbrev pub untold_cells : State → EntryValue → EntryValue
untold_cells v e = record {
  name = e.name;
  key = e.key;
  hits = filter (λ c. not (tells_hits v e.name c)) e.hits;
  execs = filter (λ c. not (tells_execs v e.name e.key c)) e.execs;
  shifts = filter (λ c. not (tells_shifts v e.name e.key c)) e.shifts;
  grants = filter (λ c. not (tells_grants v e.name e.key c)) e.grants;
}

-- left out where the state tells its key and no cell is left
abbrev pub untold_entry : State → EntryValue → List EntryValue
untold_entry v e =
    if not (tells_key v e.name e.key) || tells_cells (untold_cells v e) then untold_cells v e ∷ [] else []

abbrev pub untold_entries : State → State → ℕ → List EntryValue
untold_entries past now nodes = flat_map (untold_entry past) (entries_of now nodes)

-- the difference of two states of a node, in its message to another that tells these versions
abbrev pub difference_of : State → State → ℕ → ℕ → ℕ → ℕ → ℕ → ℕ → MessageValue
difference_of past now nodes from to base upto ack =
    record { from = from; to = to; base = base; upto = upto; ack = ack; entries = untold_entries past now nodes }
