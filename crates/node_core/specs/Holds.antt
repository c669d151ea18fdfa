-- What the fields of a node are to what its trace comes to.
use Rattle.std.specs.Prelude.{◌≡◌, ℕ, ◌<◌, ◌≤◌, List, length, pos, ◌≤ℤ◌}
use Rattle.replica_state.specs.States.{State, rights_of}
use Rattle.replica_state.specs.Folds.{clock_of}
use Rattle.node_steps.specs.declared.config.Config.{Config}
use Rattle.message_format.specs.Limits.{max_nodes, max_names}
use Rattle.delta_exchange.specs.Wholes.{AreLawful}
use Rattle.node_steps.specs.Nodes.{Node, max_trace_cap, state_shown}
use Rattle.node_core.specs.Traces.{Kept, node_of}

-- the clock and the state are those of the node that the trace comes to; no cell that the node writes
-- is above the number of its entries, so that each fits 64 bits; and its own rights are not negative
pub record Holds (config : Config) (clock : ℕ) (state : State) (entries : ℕ) (n : Node) : Type 0 where
  pub own : config.node < config.nodes
  pub few : config.nodes ≤ max_nodes
  pub small : config.trace_cap ≤ max_trace_cap
  pub capped : entries ≤ config.trace_cap
  pub clock_is : n.marks.clock ≡ clock
  pub state_is : state_shown n ≡ state
  pub carried : clock_of n.ops ≤ clock
  pub hits_few : (name : List ℕ) → state.hits name config.node ≤ entries
  pub execs_few : (name : List ℕ) (term : ℕ) → state.execs name term config.node ≤ entries
  pub own_rights : (name : List ℕ) (term : ℕ) → pos 0 ≤ℤ rights_of state name term config.node

-- the version is that of the node, which is at most the number of its entries; and a message can tell
-- all that the node knows, of few names
pub record CanTell (config : Config) (version : ℕ) (entries : ℕ) (n : Node) : Type 0 where
  pub version_is : n.marks.version ≡ version
  pub few_versions : version ≤ entries
  pub lawful : AreLawful config.nodes n.ops
  pub few_names : length (state_shown n).names ≤ max_names

-- the fields of a node are in step with its trace
abbrev pub IsInStep : Kept → ℕ → ℕ → State → Type 0
IsInStep k clock version state =
    Holds k.config clock state (length k.trace) (node_of k) × CanTell k.config version (length k.trace) (node_of k)
