-- Which lists of events are schedules: what may be sent, and what may be delivered.
use Rattle.std.specs.Prelude.{◌≡◌, ℕ, ◌≤◌, List, [], ◌∷◌, Option, Some}
use Rattle.stamp_register.specs.Keys.{KeyValue}
use Rattle.operations.specs.Operations.{Cell, Hits, Operation, Set, Count, IsIn}
use Rattle.replica_state.specs.Folds.{key_in}
use Rattle.node_calls.specs.Asks.{Asked, Versions}
use Rattle.node_calls.specs.Asks as asks
use Rattle.node_steps.specs.Nodes.{Marks}
use Rattle.node_steps.specs.Refusals.{message_in}
use Rattle.node_core.specs.Traces.{SendsDelta}
use Rattle.cluster_model.specs.Worlds.{Cluster, World, Event, accepted, world}

-- a node sends some of the operations that it knows, so that a message can spell them: of each name that
-- it carries one key with its setting, and each cell once
pub record MaySend (known chosen : List Operation) : Type 0 where
  pub held : (op : Operation) → IsIn op chosen → IsIn op known
  pub one_key : (name : List ℕ) (a b : KeyValue) (o p : Operation) → IsIn o chosen → IsIn p chosen →
      key_in name o ≡ Some a → key_in name p ≡ Some b → a ≡ b
  pub named : (name : List ℕ) (key : KeyValue) (op : Operation) → IsIn op chosen →
      key_in name op ≡ Some key → IsIn (Set name key) chosen
  pub with_hits : (name : List ℕ) (node number : ℕ) → IsIn (Count (Hits name node) number) chosen →
      (key : KeyValue) × IsIn (Set name key) chosen
  pub once : (cell : Cell) (a b : ℕ) →
      IsIn (Count cell a) chosen → IsIn (Count cell b) chosen → a ≡ b

-- it tells no version of its own that it hasn't, and none of the receiver's that it hasn't heard of, and
-- counts on no version of its own that the receiver isn't known to have
pub record MayTell (marks : Marks) (to : ℕ) (versions : Versions) : Type 0 where
  pub base : versions.base ≤ marks.acked to
  pub upto : versions.upto ≤ marks.version
  pub ack : versions.ack ≤ marks.known to

-- what node i may accept: an emit tells and sends what it may, and what is delivered was sent before
abbrev pub Allows : World → ℕ → Option Asked → Type 0
Allows w i (Some (asks.Emit to versions chosen)) = MayTell (w.node i).marks to versions × MaySend (w.node i).ops chosen
Allows w i (Some (asks.Deliver read)) = IsIn (message_in read) w.messages
Allows w i _ = Unit {0}

-- each event, of which the last stands first, is allowed in the world after those before it
abbrev pub IsSchedule : Cluster → List Event → Type 0
IsSchedule c [] = Unit {0}
IsSchedule c (e ∷ es) = Allows (world c es) e.node (accepted c (world c es) e e.node) × IsSchedule c es

-- the same, where each node sends what differs between its state at the version that the receiver is
-- known to have and its state now, and tells just these versions
abbrev pub AllowsDelta : World → ℕ → Option Asked → Type 0
AllowsDelta w i (Some (asks.Emit to versions chosen)) = SendsDelta (w.node i) (asks.Emit to versions chosen)
AllowsDelta w i a = Allows w i a

abbrev pub IsDeltaSchedule : Cluster → List Event → Type 0
IsDeltaSchedule c [] = Unit {0}
IsDeltaSchedule c (e ∷ es) =
    AllowsDelta (world c es) e.node (accepted c (world c es) e e.node) × IsDeltaSchedule c es
