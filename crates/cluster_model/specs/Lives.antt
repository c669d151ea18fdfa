-- A cluster whose nodes may end at any moment: a node that ends restarts from a prefix of its calls, and the calls
-- behind that prefix are lost.
use Rattle.std.specs.Prelude.{◌≡◌, ℕ, ◌+◌, ◌<◌, ◌≤◌, ◌==◌, ◌&&◌, nat_le, List, [], ◌∷◌, ◌++◌, length, map, take, count_by, slice_get, if◌then◌else◌, Option, Some, Result}
use Rattle.counters.specs.Sums.{node_numbers, sum_below}
use Rattle.stamp_register.specs.declared.key.Stamp.{Stamp}
use Rattle.stamp_register.specs.Keys.{KeyValue, stamp_of}
use Rattle.operations.specs.Operations.{IsIn, count_of}
use Rattle.message_format.specs.declared.fault.WireFault.{WireFault}
use Rattle.node_calls.specs.Asks.{Asked, Call, Message, call_from}
use Rattle.node_calls.specs.Asks as asks
use Rattle.node_calls.specs.Told.{Told}
use Rattle.node_steps.specs.Refusals.{message_in}
use Rattle.node_core.specs.Resumed.{IsFirstWrong}
use Rattle.node_core.specs.Traces.{replay}
use Rattle.cluster_model.specs.Histories.{IsIssued, acts, all_granted}
use Rattle.cluster_model.specs.Laws.{EscrowHolds, IsToldBy}
use Rattle.cluster_model.specs.Schedules.{Allows, AllowsDelta, IsDeltaSchedule, IsSchedule}
use Rattle.cluster_model.specs.Worlds.{Cluster, Event, World, accepted, config_of, fresh, happens, world}

-- a node is asked something; or the caller of the call at this place of a node's trace gets its reply; or a node ends
-- and restarts from its first so many calls
pub data Turn : Type 0 where
  is_asked : (event : Event) → Turn
  is_answered : (node place : ℕ) → Turn
  is_restarted : (node calls : ℕ) → Turn

-- a node restarts from these calls; all else stays as it is, messages too
abbrev pub restarted : World → ℕ → List Call → World
restarted w i calls =
    record {
      node = λ j. if j == i then replay i calls else w.node j;
      trace = λ j. if j == i then calls else w.trace j;
      messages = w.messages;
    }

-- the world after these turns, of which the last stands first
abbrev pub life : Cluster → List Turn → World
life c [] = fresh
life c (is_asked e ∷ turns) = happens c (life c turns) e
life c (is_answered i place ∷ turns) = life c turns
life c (is_restarted i calls ∷ turns) = restarted (life c turns) i (take calls ((life c turns).trace i))

-- each message that was delivered was sent, by what traces say as they stand: no lost message was delivered
abbrev pub IsConsistent : World → Type 0
IsConsistent w = (i : ℕ) (call : Call) (read : Result Message WireFault) → IsIn call (w.trace i) →
    call.ask ≡ asks.Deliver read → IsToldBy (w.trace (message_in read).from) (message_in read)

-- each call of a node whose caller got its reply is among the node's first so many
abbrev pub AreAnsweredAmong : List Turn → ℕ → ℕ → Type 0
AreAnsweredAmong [] i calls = Unit {0}
AreAnsweredAmong (is_answered j place ∷ turns) i calls = (j ≡ i → place < calls) × AreAnsweredAmong turns i calls
AreAnsweredAmong (_ ∷ turns) i calls = AreAnsweredAmong turns i calls

-- what may come next: an event that is allowed; a reply to a call that was made; a restart that loses no call whose
-- caller got its reply
abbrev pub MayCome : (World → ℕ → Option Asked → Type 0) → Cluster → List Turn → Turn → Type 0
MayCome May c turns (is_asked e) = May (life c turns) e.node (accepted c (life c turns) e e.node)
MayCome May c turns (is_answered i place) = place < length ((life c turns).trace i)
MayCome May c turns (is_restarted i calls) = AreAnsweredAmong turns i calls

-- each turn may come, and at no moment was a lost message delivered
abbrev pub IsLife : (World → ℕ → Option Asked → Type 0) → Cluster → List Turn → Type 0
IsLife May c [] = Unit {0}
IsLife May c (turn ∷ turns) = MayCome May c turns turn × IsConsistent (life c (turn ∷ turns)) × IsLife May c turns

-- ---- a life is a run without the lost calls

-- without what a node was asked once it had made so many calls
abbrev pub without_lost : Cluster → ℕ → ℕ → List Event → List Event
without_lost c i calls [] = []
without_lost c i calls (e ∷ es) =
    if e.node == i && nat_le calls (length ((world c es).trace i)) then without_lost c i calls es
    else e ∷ without_lost c i calls es

-- what was asked, without the lost calls
abbrev pub run_of : Cluster → List Turn → List Event
run_of c [] = []
run_of c (is_asked e ∷ turns) = e ∷ run_of c turns
run_of c (is_answered i place ∷ turns) = run_of c turns
run_of c (is_restarted i calls ∷ turns) = without_lost c i calls (run_of c turns)

-- a world has the nodes and the traces of the world after these events, and its messages among its own
pub record IsWorldOf (c : Cluster) (w : World) (es : List Event) : Type 0 where
  pub nodes : w.node ≡ (world c es).node
  pub traces : w.trace ≡ (world c es).trace
  pub messages : (message : Message) → IsIn message (world c es).messages → IsIn message w.messages

abbrev pub LivesAreRuns : Type 0
LivesAreRuns = (c : Cluster) (turns : List Turn) → IsLife Allows c turns →
    IsWorldOf c (life c turns) (run_of c turns) × IsSchedule c (run_of c turns)

-- and so where each node sends what differs
abbrev pub DeltaLivesAreRuns : Type 0
DeltaLivesAreRuns = (c : Cluster) (turns : List Turn) → IsLife AllowsDelta c turns →
    IsWorldOf c (life c turns) (run_of c turns) × IsDeltaSchedule c (run_of c turns)

-- which is one of the lives in which nodes send what they choose: all that holds of those holds of it
abbrev pub DeltaLivesAreLives : Type 0
DeltaLivesAreLives = (c : Cluster) (turns : List Turn) → IsLife AllowsDelta c turns → IsLife Allows c turns

-- a list of events in which each node sends what differs is a life in which none ends
abbrev pub SchedulesAreLives : Type 0
SchedulesAreLives = (c : Cluster) (es : List Event) → IsDeltaSchedule c es → IsLife AllowsDelta c (map is_asked es)

-- each message of a node that was delivered is one that its first so many calls were answered with
abbrev pub AreDeliveredAmong : World → ℕ → ℕ → Type 0
AreDeliveredAmong w i calls = (j : ℕ) (call : Call) (read : Result Message WireFault) → IsIn call (w.trace j) →
    call.ask ≡ asks.Deliver read → (message_in read).from ≡ i → IsToldBy (take calls (w.trace i)) (message_in read)

-- so a node may restart from its first so many calls if these have each call whose caller got its reply, and that of
-- each message that was delivered: it needn't ask what others lost
abbrev pub RestartGoesOn : Type 0
RestartGoesOn = (c : Cluster) (turns : List Turn) (i calls : ℕ) → IsLife AllowsDelta c turns →
    AreAnsweredAmong turns i calls → AreDeliveredAmong (life c turns) i calls →
    IsLife AllowsDelta c (is_restarted i calls ∷ turns)

-- and so from all of its calls
abbrev pub WholeRestartGoesOn : Type 0
WholeRestartGoesOn = (c : Cluster) (turns : List Turn) (i : ℕ) → IsLife AllowsDelta c turns →
    IsLife AllowsDelta c (is_restarted i (length ((life c turns).trace i)) ∷ turns)

-- ---- what holds of every life

-- a call whose caller got its reply stands in the run, at the same place of the trace
abbrev pub AnsweredIsKept : Type 0
AnsweredIsKept = (c : Cluster) (later earlier : List Turn) (i place : ℕ) →
    IsLife Allows c (later ++ is_answered i place ∷ earlier) →
    slice_get ((world c (run_of c (later ++ is_answered i place ∷ earlier))).trace i) place
    ≡ slice_get ((life c earlier).trace i) place

-- a node takes again the calls that it restarts from: none of them is the first that a node of its number answers
-- otherwise
abbrev pub RestartIsTaken : Type 0
RestartIsTaken = (c : Cluster) (turns : List Turn) (i calls index : ℕ) (entries : List Told) →
    IsLife AllowsDelta c (is_restarted i calls ∷ turns) →
    map (call_from c.nodes) entries ≡ take calls ((life c turns).trace i) →
    IsFirstWrong (config_of c i) entries index → ⊥

-- the executions of a term under a stamp in the traces of all nodes
abbrev pub executions_in : Cluster → World → Stamp → ℕ → ℕ
executions_in c w stamp term = sum_below c.nodes (λ i. count_by (λ call. acts stamp term call.reply) (w.trace i))

-- rights are conserved over the life, and the executions that its traces have are no more than what was counted and
-- what was granted by calls that aren't lost
pub record IsConservedLife (c : Cluster) (turns : List Turn) : Type 0 where
  pub escrow : EscrowHolds c (run_of c turns)
  pub at_most : (name : List ℕ) (key : KeyValue) (term count : ℕ) → IsIssued c (run_of c turns) name key →
      count_of key term ≡ Some count →
      executions_in c (life c turns) (stamp_of key) term ≤ count + all_granted c (run_of c turns) name key term

abbrev pub LivesAreConserved : Type 0
LivesAreConserved = (c : Cluster) (turns : List Turn) → c.nodes ≤ node_numbers → IsLife Allows c turns →
    IsConservedLife c turns
