-- Schedules of the cluster, and which of them fit traces.
use Rattle.std.specs.Prelude.{◌≡◌, ◌⊎◌, ℕ, ◌==◌, ◌<◌, ◌^◌, if◌then◌else◌, List, [], ◌∷◌, ◌++◌, map, Some}
use Rattle.node_calls.specs.Told.{Told}
use Rattle.node_calls.specs.Asks.{call_from}
use Rattle.cluster_model.specs.Worlds.{Cluster, Event, cluster_of, world}
use Rattle.cluster_model.specs.Schedules.{IsDeltaSchedule}
use Rattle.audit.specs.Messages.{bytes_emitted, bytes_delivered}
use Rattle.audit.specs.Traces.{Traces, trace_of}

-- a step: a node, and the entry that it made. Of a list of steps the newest stands first
pub record Step : Type 0 where
  pub node : ℕ
  pub entry : Told

-- what the node was asked by it
abbrev pub event_of : ℕ → Step → Event
event_of nodes s = record { node = s.node; ask = (call_from nodes s.entry).ask; words = s.entry.words }

abbrev pub events_of : ℕ → List Step → List Event
events_of nodes steps = map (event_of nodes) steps

-- the entries that a node made, the first of them first
abbrev pub entries_at : ℕ → List Step → List Told
entries_at node [] = []
entries_at node (step ∷ earlier) =
    if step.node == node then entries_at node earlier ++ step.entry ∷ [] else entries_at node earlier

-- an emit was answered with these bytes
abbrev pub WasEmitted : List Step → List ℕ → Type 0
WasEmitted [] bytes = ⊥
WasEmitted (step ∷ earlier) bytes = (bytes_emitted step.entry ≡ Some bytes) ⊎ WasEmitted earlier bytes

-- the bytes of each delivery are those of an earlier emit
abbrev pub AreFed : List Step → Type 0
AreFed [] = Unit {0}
AreFed (step ∷ earlier) =
    ((bytes : List ℕ) → bytes_delivered step.entry ≡ Some bytes → WasEmitted earlier bytes) × AreFed earlier

-- The steps are a schedule of the cluster, in which each node sends what differs; each of them is
-- accepted and answered as its entry says, and those at each node, in order, are its trace.
pub record FitsTraces (c : Cluster) (traces : Traces) (steps : List Step) : Type 0 where
  pub schedule : IsDeltaSchedule c (events_of c.nodes steps)
  pub fed : AreFed steps
  pub told : (i : ℕ) →
      (world c (events_of c.nodes steps)).trace i ≡ map (call_from c.nodes) (entries_at i steps)
  pub whole : (i : ℕ) → entries_at i steps ≡ trace_of traces i

-- some schedule fits, of a cluster of so many nodes which accept so many calls
pub record SomeFits (nodes : ℕ) (traces : Traces) : Type 0 where
  pub trace_cap : ℕ
  pub small : trace_cap < 2 ^ 32
  pub steps : List Step
  pub fits : FitsTraces (cluster_of nodes trace_cap) traces steps
