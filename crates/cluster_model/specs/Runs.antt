-- A run of a world: what its events are answered, the world after them, and the schedule that they are.
use Rattle.std.specs.Prelude.{◌≡◌, ◌⊎◌, ℕ, ◌+◌, ◌<◌, ◌≤◌, Bool, false, List, [], ◌∷◌, ◌++◌, length, map, Some, Ok, Err, count_by, slice_get}
use Rattle.counters.specs.Sums.{node_numbers}
use Rattle.stamp_register.specs.declared.key.Stamp.{Stamp}
use Rattle.replica_state.specs.Knowledge.{KnowsAll}
use Rattle.replica_state.specs.Folds.{fold}
use Rattle.node_calls.specs.declared.fault.NodeFault.TheVariants.{OutOfMemory}
use Rattle.node_core.specs.Traces.{Kept, state_known}
use Rattle.cluster_model.specs.declared.fault.WorldFault.TheVariants.{Refused}
use Rattle.cluster_model.specs.Worlds.{Cluster, Event, world}
use Rattle.cluster_model.specs.Schedules.{IsDeltaSchedule}
use Rattle.cluster_model.specs.Histories.{all_learnt, acts, all_executions}
use Rattle.cluster_model.specs.Laws.{kept, IsOwnReason}
use Rattle.cluster_model.specs.Events.{WorldValue, EventValue, delivers, event_value, Answer, answer, answer_value, world_after, scheduled}
use Rattle.cluster_model.specs.declared.event.Event as code
use Rattle.cluster_model.specs.declared.run.RunReport.{RunReport}

-- what a run of the code is asked, and what it tells of a world
abbrev pub asked : List code.Event → List EventValue
asked events = map event_value events

abbrev pub told : WorldValue → RunReport → List Answer
told w report = map (answer_value (length w.nodes)) report.answers.items

-- an event has its answer, or memory was refused
abbrev pub IsAnswer : WorldValue → EventValue → Answer → Type 0
IsAnswer w e a = (a ≡ Err (Refused OutOfMemory)) ⊎ (a ≡ answer w e)

-- what is refused changes nothing
abbrev pub after_answer : WorldValue → EventValue → Answer → WorldValue
after_answer w e (Ok reply) = world_after w e
after_answer w e (Err fault) = w

-- each event has its answer in the world that those before it left
unfoldable pub AreAnswers : WorldValue → List EventValue → List Answer → Type 0
AreAnswers w [] [] = Unit {0}
AreAnswers w (e ∷ es) (a ∷ answers) = IsAnswer w e a × AreAnswers (after_answer w e a) es answers
AreAnswers w _ _ = ⊥

unfoldable pub after_answers : WorldValue → List EventValue → List Answer → WorldValue
after_answers w (e ∷ es) (a ∷ answers) = after_answers (after_answer w e a) es answers
after_answers w _ _ = w

-- ---- as a schedule

-- what was accepted, the last of it first
abbrev pub happened : WorldValue → EventValue → Answer → List Event
happened w e (Ok reply) = scheduled w e
happened w e (Err fault) = []

unfoldable pub happened_after : List Event → WorldValue → List EventValue → List Answer → List Event
happened_after past w (e ∷ es) (a ∷ answers) =
    happened_after (happened w e a ++ past) (after_answer w e a) es answers
happened_after past w _ _ = past

-- a world is what these events of a schedule come to, in which each node sends what differs
pub record HasHistory (c : Cluster) (past : List Event) (w : WorldValue) : Type 0 where
  pub few : c.nodes ≤ node_numbers
  pub size : length w.nodes ≡ c.nodes
  pub nodes : (i : ℕ) → i < c.nodes → slice_get w.nodes i ≡ Some (kept c past i)
  pub messages : w.messages ≡ (world c past).messages
  pub schedule : IsDeltaSchedule c past

-- whatever history a world had, another has it with these events more
abbrev pub Continues : WorldValue → WorldValue → List Event → Type 0
Continues w new es =
    (c : Cluster) (past : List Event) → HasHistory c past w → HasHistory c (es ++ past) new

-- what holds of the events so far after these answers, whatever a world's history was; that of a new one
-- is empty
abbrev pub Afterwards : WorldValue → List EventValue → List Answer → (Cluster → List Event → Type 0) → Type 0
Afterwards w es answers fact =
    (c : Cluster) (past : List Event) → HasHistory c past w → fact c (happened_after past w es answers)

-- each node holds the state of all that it learnt, and nodes of which each knows what the other knows hold
-- the same state
pub record HoldsWhatItLearnt (c : Cluster) (past : List Event) (w : WorldValue) : Type 0 where
  pub state : (i : ℕ) (k : Kept) → slice_get w.nodes i ≡ Some k →
      state_known k ≡ fold (all_learnt c past i)
  pub same : (i j : ℕ) (k l : Kept) → slice_get w.nodes i ≡ Some k → slice_get w.nodes j ≡ Some l →
      KnowsAll (all_learnt c past i) (all_learnt c past j) →
      KnowsAll (all_learnt c past j) (all_learnt c past i) → state_known k ≡ state_known l

-- an answer says that a term was executed under a stamp
abbrev pub tells_act : Stamp → ℕ → Answer → Bool
tells_act stamp term (Ok reply) = acts stamp term reply
tells_act stamp term (Err fault) = false

-- the executions since a world had this history are just those that the answers tell of
abbrev pub TellsExecutions : WorldValue → List EventValue → List Answer → Type 0
TellsExecutions w es answers = (c : Cluster) (past : List Event) → HasHistory c past w → (stamp : Stamp) (term : ℕ) →
    all_executions c (happened_after past w es answers) stamp term
    ≡ all_executions c past stamp term + count_by (tells_act stamp term) answers

-- no delivery is refused for what the message says
abbrev pub IsOwnAnswer : Answer → Type 0
IsOwnAnswer (Err (Refused fault)) = (fault ≡ OutOfMemory) ⊎ IsOwnReason (Some fault)
IsOwnAnswer _ = Unit {0}

abbrev pub IsHonestAnswer : EventValue → Answer → Type 0
IsHonestAnswer (delivers node message) a = IsOwnAnswer a
IsHonestAnswer e a = Unit {0}

unfoldable pub AreHonest : List EventValue → List Answer → Type 0
AreHonest (e ∷ es) (a ∷ answers) = IsHonestAnswer e a × AreHonest es answers
AreHonest _ _ = Unit {0}
