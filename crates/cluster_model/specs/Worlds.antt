-- A cluster of nodes: what each of them holds, what was sent, and what an event changes.
use Rattle.std.specs.Prelude.{ℕ, ◌==◌, ◌&&◌, Bool, nat_lt, nat_le, List, [], ◌∷◌, ◌++◌, length, if◌then◌else◌, Option, Some, None, is_none}
use Rattle.message_format.specs.Limits.{max_nodes}
use Rattle.node_steps.specs.declared.config.Config.{Config}
use Rattle.node_calls.specs.Asks.{Asked, Call, Message}
use Rattle.node_calls.specs.Asks as asks
use Rattle.node_steps.specs.Nodes.{Node, start}
use Rattle.node_core.specs.Steps.{after, reply, message_to}
use Rattle.node_steps.specs.Refusals.{refusal_at}

-- how many nodes there are, and how many calls each of them accepts in its life
pub record Cluster : Type 0 where
  pub nodes : ℕ
  pub trace_cap : ℕ

abbrev pub cluster_of : ℕ → ℕ → Cluster
cluster_of nodes trace_cap = record { nodes = nodes; trace_cap = trace_cap }

-- a cluster has 1 to 32 nodes
abbrev pub is_cluster_size : ℕ → Bool
is_cluster_size count = nat_le 1 count && nat_le count max_nodes

abbrev pub config_of : Cluster → ℕ → Config
config_of c i = record { node = i; nodes = c.nodes; trace_cap = c.trace_cap }

-- what each node holds, the calls that it accepted, and the messages that all of them sent
pub record World : Type 0 where
  pub node : ℕ → Node
  pub trace : ℕ → List Call
  pub messages : List Message

-- before anything happens
abbrev pub fresh : World
fresh = record { node = λ i. start; trace = λ i. []; messages = [] }

-- one node is asked something
pub record Event : Type 0 where
  pub node : ℕ
  pub ask : Asked
  pub words : List ℕ

-- node i is the one that is asked, it is a node of the cluster, and it doesn't refuse
abbrev pub is_accepted : Cluster → World → Event → ℕ → Bool
is_accepted c w e i =
    nat_lt e.node c.nodes
    && (i == e.node
    && is_none (refusal_at (config_of c i) (length (w.trace i)) (w.node i) e.ask e.words))

-- what node i accepts, if anything
abbrev pub accepted : Cluster → World → Event → ℕ → Option Asked
accepted c w e i = if is_accepted c w e i then Some e.ask else None

-- node i, its trace and what it sends, where it accepts this
abbrev pub node_after : ℕ → Node → Option Asked → List ℕ → Node
node_after i n None words = n
node_after i n (Some ask) words = after i n ask words

abbrev pub trace_after : ℕ → Node → List Call → Option Asked → List ℕ → List Call
trace_after i n trace None words = trace
trace_after i n trace (Some ask) words =
    trace ++ record { ask = ask; words = words; reply = reply i n ask words } ∷ []

abbrev pub sent : ℕ → Node → Option Asked → List Message
sent i n (Some (asks.Emit to versions chosen)) = message_to i to versions chosen ∷ []
sent i n _ = []

abbrev pub happens : Cluster → World → Event → World
happens c w e =
    record {
      node = λ i. node_after i (w.node i) (accepted c w e i) e.words;
      trace = λ i. trace_after i (w.node i) (w.trace i) (accepted c w e i) e.words;
      messages = w.messages ++ sent e.node (w.node e.node) (accepted c w e e.node);
    }

-- the world after these events, of which the last stands first
abbrev pub world : Cluster → List Event → World
world c [] = fresh
world c (e ∷ es) = happens c (world c es) e
