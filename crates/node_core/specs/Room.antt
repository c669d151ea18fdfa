-- What an accepted call finds room for: an entry of the trace, clocks, and names.
use Rattle.std.specs.Prelude.{◌≡◌, ℕ, ◌+◌, ◌^◌, ◌<◌, ◌≤◌, List, [], length, false}
use Rattle.replica_state.specs.Folds.{fold}
use Rattle.replica_state.specs.States.{State, with_name}
use Rattle.replica_state.specs.Unions.{with_names}
use Rattle.message_format.specs.Limits.{max_names}
use Rattle.node_calls.specs.Asks.{Load}
use Rattle.node_steps.specs.Outcomes.{state_set}
use Rattle.node_steps.specs.Refusals.{too_many}
use Rattle.node_steps.specs.Settings.{settings}
use Rattle.node_core.specs.Traces.{Kept, last_clock, state_known}

-- the trace takes one more call
abbrev pub HasRoom : Kept → Type 0
HasRoom k = length k.trace < k.config.trace_cap

-- there are so many clocks above the last one
abbrev pub HasClocks : Kept → ℕ → Type 0
HasClocks k count = last_clock k + count < 2 ^ 64

-- with this name, or with all of these, there aren't too many
abbrev pub HasPlace : Kept → List ℕ → Type 0
HasPlace k name = too_many (with_name name (state_known k).names) ≡ false

abbrev pub HavePlaces : Kept → List (List ℕ) → Type 0
HavePlaces k names = length (with_names names (state_known k).names) ≤ max_names

-- the state in which just the points of a setting text are set, under the next keys of a node
abbrev pub state_loaded : Kept → List ℕ → State
state_loaded k text = state_set k.config.node (last_clock k) (settings (Load text)) (fold [])
