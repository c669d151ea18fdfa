-- What a replica with versions is to the node that it is kept for.
use Rattle.std.specs.Prelude.{◌≡◌, ℕ, ◌≤◌}
use Rattle.delta_exchange.specs.Changes.{TellsChanges}
use Rattle.delta_exchange.specs.Versions.{VersionedValue}
use Rattle.node_steps.specs.Nodes.{Node, state_shown}
use Rattle.node_core.specs.Traces.{Kept, node_of}
use Rattle.node_core.specs.Holds.{IsInStep}

-- its state and its versions are those of the node; what changed after a version is what differs from
-- the state that the node had then; and no other node is known to have a version that is still to come
pub record KeepsVersions (n : Node) (value : VersionedValue) : Type 0 where
  pub state_is : state_shown n ≡ value.state
  pub version_is : n.marks.version ≡ value.version
  pub known_is : n.marks.known ≡ value.known
  pub acked_is : n.marks.acked ≡ value.acked
  pub changes : TellsChanges n.past n.marks.version (state_shown n) value.last
  pub acked_reached : (node : ℕ) → n.marks.acked node ≤ n.marks.version

-- the clock and the replica of a node are in step with its trace
abbrev pub IsInStepWith : Kept → ℕ → VersionedValue → Type 0
IsInStepWith k clock value = IsInStep k clock value.version value.state × KeepsVersions (node_of k) value
