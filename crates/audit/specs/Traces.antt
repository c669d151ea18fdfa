-- The traces of a cluster, and which of them are legal.
use Rattle.std.specs.Prelude.{◌≡◌, ℕ, zero, suc, ◌-◌, ◌^◌, ◌<◌, ◌≤◌, List, [], ◌∷◌, length, slice_get, Option}
use Rattle.message_format.specs.Limits.{max_nodes}
use Rattle.node_calls.specs.Told.{Told}
use Rattle.node_core.specs.Resumed.{IsFirstWrong, IsLegalAlone}
use Rattle.packed_trace.specs.Packed.{Packed}
use Rattle.cluster_model.specs.Worlds.{Cluster, config_of, cluster_of}

-- they stand in the order of their nodes; a node without one did nothing
abbrev pub Traces : Type 0
Traces = List Packed

abbrev pub trace_of : Traces → ℕ → List Told
trace_of [] node = []
trace_of (trace ∷ traces) zero = trace.calls
trace_of (trace ∷ traces) (suc node) = trace_of traces node

-- the entry at a place: a node, and an index of its trace
unfoldable pub entry_at : Traces → ℕ → ℕ → Option Told
entry_at traces node index = slice_get (trace_of traces node) index

-- 1 to 32 nodes, and a trace for each
pub record IsSized (nodes : ℕ) (traces : Traces) : Type 0 where
  pub some : 1 ≤ nodes
  pub few : nodes ≤ max_nodes
  pub each : length traces ≡ nodes

-- how many calls a node accepts in its life isn't judged: of all nodes this cluster's accept the most
abbrev pub audited : ℕ → Cluster
audited nodes = cluster_of nodes (2 ^ 32 - 1)

-- each of them is legal at its node alone
abbrev pub AllLegal : ℕ → Traces → Type 0
AllLegal nodes traces = (node : ℕ) → IsLegalAlone (config_of (audited nodes) node) (trace_of traces node)

-- the first wrong entry is that of the least node whose trace isn't legal
pub record IsLeastWrong (nodes : ℕ) (traces : Traces) (node index : ℕ) : Type 0 where
  pub first : IsFirstWrong (config_of (audited nodes) node) (trace_of traces node) index
  pub least : (n : ℕ) → n < node → IsLegalAlone (config_of (audited nodes) n) (trace_of traces n)

-- what a number of 32 bits can count
abbrev pub AreShort : Traces → Type 0
AreShort traces = (node : ℕ) → length (trace_of traces node) < 2 ^ 32
