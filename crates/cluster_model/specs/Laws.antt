-- What holds of every schedule of a cluster.
use Rattle.std.specs.Prelude.{◌≡◌, ◌≢◌, ◌⊎◌, ℕ, ◌+◌, ◌≤◌, ◌<◌, ◌==◌, ◌&&◌, Bool, true, false, pos, ◌+ℤ◌, ◌≤ℤ◌, List, [], ◌∷◌, ◌++◌, ◌↔◌, Option, Some, None, Ok, count_by, slice_get}
use Rattle.std.specs.List.{list_any}
use Rattle.actions.specs.Value.{TermValue, TaskValue}
use Rattle.counters.specs.Sums.{node_numbers, sum_below}
use Rattle.stamp_register.specs.declared.key.Stamp.{Stamp}
use Rattle.stamp_register.specs.Keys.{KeyValue, stamp_of, terms_set}
use Rattle.operations.specs.Operations.{Operation, Set, Count, IsIn, count_of, name_in}
use Rattle.replica_state.specs.States.{State, granted_of}
use Rattle.replica_state.specs.Folds.{fold}
use Rattle.replica_state.specs.Deltas.{IsDelta}
use Rattle.replica_state.specs.StateOrder.{IsBelow}
use Rattle.replica_state.specs.Knowledge.{KnowsAll}
use Rattle.node_calls.specs.declared.fault.NodeFault.{NodeFault}
use Rattle.node_calls.specs.declared.fault.NodeFault.TheVariants as faults
use Rattle.node_calls.specs.Asks.{Asked, Message, Call, message_read, bare_emit}
use Rattle.node_calls.specs.Asks as asks
use Rattle.node_calls.specs.Told.{Act}
use Rattle.node_steps.specs.Nodes.{state_shown}
use Rattle.node_core.specs.Steps.{message_to}
use Rattle.node_core.specs.Traces.{Kept, replay, refusal, after_call, delivery_of, emission_of, versions_told, IsLegal}
use Rattle.node_core.specs.Deliveries.{TellsDelta}
use Rattle.node_steps.specs.Refusals.{is_ahead, overspends}
use Rattle.cluster_model.specs.Worlds.{Cluster, Event, config_of, accepted, world}
use Rattle.cluster_model.specs.Schedules.{MaySend, Allows, IsSchedule, AllowsDelta, IsDeltaSchedule}
use Rattle.cluster_model.specs.Views.{SeesWhole}
use Rattle.cluster_model.specs.Histories.{state_of, all_learnt, keys_issued, IsIssued, held, in_transit, all_held, all_in_transit, all_granted, all_executions}

-- each node is what its trace comes to
abbrev pub NodeIsReplay : Type 0
NodeIsReplay = (c : Cluster) (es : List Event) (i : ℕ) →
    (world c es).node i ≡ replay i ((world c es).trace i)

-- node i as its callers see it, which keeps all calls
abbrev pub kept : Cluster → List Event → ℕ → Kept
kept c es i = record { config = config_of c i; trace = (world c es).trace i; from = 0 }

-- an event is a call of its node: one that the node refuses, or that names no node, changes nothing, and another
-- changes that node as the call does, and no other node
pub record IsCall (c : Cluster) (es : List Event) (e : Event) : Type 0 where
  pub accepted : e.node < c.nodes → refusal (kept c es e.node) e.ask e.words ≡ None →
      kept c (e ∷ es) e.node ≡ after_call (kept c es e.node) e.ask e.words
  pub refused : (fault : NodeFault) → refusal (kept c es e.node) e.ask e.words ≡ Some fault →
      world c (e ∷ es) ≡ world c es
  pub absent : c.nodes ≤ e.node → world c (e ∷ es) ≡ world c es
  pub others : (i : ℕ) → i ≢ e.node → kept c (e ∷ es) i ≡ kept c es i

abbrev pub EventIsCall : Type 0
EventIsCall = (c : Cluster) (es : List Event) (e : Event) → IsCall c es e

-- a caller was answered with a message
pub record IsToldBy (trace : List Call) (message : Message) : Type 0 where
  pub call : Call
  pub held : IsIn call trace
  pub reply : call.reply ≡ asks.IsEmitted (Ok message)

-- the messages of a node are those that its callers were answered with
abbrev pub MessagesAreReplies : Type 0
MessagesAreReplies = (c : Cluster) (es : List Event) (i : ℕ) (message : Message) →
    (IsIn message (world c es).messages × (message.from ≡ i)) ↔ IsToldBy ((world c es).trace i) message

-- the state of a node is that of all the operations that it issued and that were delivered to it
abbrev pub StateIsFold : Type 0
StateIsFold = (c : Cluster) (es : List Event) (i : ℕ) → state_of c es i ≡ fold (all_learnt c es i)

-- so nodes that learnt the same operations hold the same state, whatever the order, the repeats and
-- the path
abbrev pub AnyOrderSameState : Type 0
AnyOrderSameState = (c d : Cluster) (es fs : List Event) (i j : ℕ) →
    ((op : Operation) → IsIn op (all_learnt c es i) ↔ IsIn op (all_learnt d fs j)) →
    state_of c es i ≡ state_of d fs j

-- and so do nodes of which each knows what the other knows: one may have learnt later operations in
-- place of others
abbrev pub MutualKnowledgeSameState : Type 0
MutualKnowledgeSameState = (c d : Cluster) (es fs : List Event) (i j : ℕ) →
    KnowsAll (all_learnt c es i) (all_learnt d fs j) → KnowsAll (all_learnt d fs j) (all_learnt c es i) →
    state_of c es i ≡ state_of d fs j

-- a delivery that is accepted gives the least state above the node's own and the message's
pub record IsLeastAboveBoth (c : Cluster) (es : List Event) (e : Event) (i : ℕ)
    (message : Message) : Type 0 where
  pub own : IsBelow (state_of c es i) (state_of c (e ∷ es) i)
  pub came : IsBelow (fold message.ops) (state_of c (e ∷ es) i)
  pub least : (ops : List Operation) → IsBelow (state_of c es i) (fold ops) →
      IsBelow (fold message.ops) (fold ops) → IsBelow (state_of c (e ∷ es) i) (fold ops)

abbrev pub DeliveryIsLeast : Type 0
DeliveryIsLeast = (c : Cluster) (es : List Event) (e : Event) (i : ℕ) (message : Message) →
    accepted c (world c es) e i ≡ Some (asks.Deliver (Ok message)) → IsLeastAboveBoth c es e i message

-- no stamp is issued twice
abbrev pub has_stamp : Stamp → Operation → Bool
has_stamp stamp (Set name key) = key.clock == stamp.clock && (key.node == stamp.node)
has_stamp stamp (Count cell number) = false

abbrev pub StampIsIssuedOnce : Type 0
StampIsIssuedOnce = (c : Cluster) (es : List Event) (stamp : Stamp) →
    count_by (has_stamp stamp) (keys_issued c es) ≤ 1

-- so that a stamp names one point, one key and one count
abbrev pub StampIsOneKey : Type 0
StampIsOneKey = (c : Cluster) (es : List Event) (name other : List ℕ) (key another : KeyValue) →
    IsIssued c es name key → IsIssued c es other another → stamp_of key ≡ stamp_of another →
    (name ≡ other) × (key ≡ another)

-- of a term counted so: no node holds less than nothing, no less than nothing is on its way, what is
-- held, what is on its way and what was executed add up to the count and what was granted, and so no
-- more was executed
pub record IsConserved (c : Cluster) (es : List Event) (name : List ℕ) (key : KeyValue)
    (term count : ℕ) : Type 0 where
  pub none_owed : (i : ℕ) → pos 0 ≤ℤ held c es name key term count i
  pub none_ahead : (i j : ℕ) → pos 0 ≤ℤ in_transit c es name key term i j
  pub total : all_held c es name key term count +ℤ all_in_transit c es name key term
      +ℤ pos (all_executions c es (stamp_of key) term)
      ≡ pos (count + all_granted c es name key term)
  pub at_most : all_executions c es (stamp_of key) term ≤ count + all_granted c es name key term

-- so it is with each term of each key that was issued
abbrev pub EscrowHolds : Cluster → List Event → Type 0
EscrowHolds c es = (name : List ℕ) (key : KeyValue) (term count : ℕ) →
    IsIssued c es name key → count_of key term ≡ Some count → IsConserved c es name key term count

-- a node number is below 256
abbrev pub Escrow : Type 0
Escrow = (c : Cluster) (es : List Event) → c.nodes ≤ node_numbers → IsSchedule c es → EscrowHolds c es

-- what was asked is a pass of a point, and what was answered is a term, counted or not, of the text of a
-- key that was issued for that point, under the stamp of that key
pub record IsExecution (c : Cluster) (es : List Event) (ask : Asked) (stamp : Stamp) (term : ℕ)
    (task : TaskValue) : Type 0 where
  pub name : List ℕ
  pub key : KeyValue
  pub terms : List TermValue
  pub executed : TermValue
  pub asked : ask ≡ asks.Pass name
  pub issued : IsIssued c es name key
  pub stamped : stamp_of key ≡ stamp
  pub spelled : terms_set key.body ≡ Some terms
  pub there : slice_get terms term ≡ Some executed
  pub does : executed.task ≡ task

-- so each execution that a caller was told of is one of those that are counted under an issued key
abbrev pub ToldExecutionsAreIssued : Type 0
ToldExecutionsAreIssued = (c : Cluster) (es : List Event) → IsSchedule c es → (i : ℕ) (call : Call)
    (stamp : Stamp) (term : ℕ) (task : TaskValue) → IsIn call ((world c es).trace i) →
    call.reply ≡ asks.IsPassed (Act stamp term task) → IsExecution c es call.ask stamp term task

-- what a node knows with what a message tells
abbrev pub merged : Cluster → List Event → ℕ → Message → State
merged c es i message = fold (message.ops ++ ((world c es).node i).ops)

-- there a term of a name that the message carries is overspent
abbrev pub merge_overspends : Cluster → List Event → ℕ → Message → Bool
merge_overspends c es i message = list_any (overspends (merged c es i message)) message.ops

-- of a term of the key that it has of the name, a state knows more executions than the count and the
-- grants that it knows, and no more than the count and all that was granted: so it doesn't know the
-- grant that paid for them
pub record LacksGrant (c : Cluster) (es : List Event) (v : State) (name : List ℕ) : Type 0 where
  pub key : KeyValue
  pub term : ℕ
  pub count : ℕ
  pub under : v.key name ≡ Some key
  pub counted : count_of key term ≡ Some count
  pub overspent : count + granted_of v name term < sum_below node_numbers (v.execs name term)
  pub paid : sum_below node_numbers (v.execs name term) ≤ count + all_granted c es name key term

-- what a message of the cluster says of a node is not ahead of what that node wrote, it tells the node
-- nothing of a version that it hasn't, and what it carries, merged, overspends no term, but where
-- executions are known, the node's own or told, and not yet the grant that paid for them
pub record IsHonest (c : Cluster) (es : List Event) (i : ℕ) (message : Message) : Type 0 where
  pub not_ahead : list_any (is_ahead i (state_of c es i)) message.ops ≡ false
  pub acked : message.to ≡ i → message.ack ≤ ((world c es).node i).marks.version
  pub not_overspent : (op : Operation) → IsIn op message.ops →
      overspends (merged c es i message) op ≡ true →
      LacksGrant c es (merged c es i message) (name_in op)

-- a refusal that has another reason than what the message says
abbrev pub IsOwnReason : Option NodeFault → Type 0
IsOwnReason None = Unit {0}
IsOwnReason (Some faults.TraceFull) = Unit {0}
IsOwnReason (Some faults.NotForMe) = Unit {0}
IsOwnReason (Some faults.TooManyPoints) = Unit {0}
IsOwnReason (Some _) = ⊥

-- or that, of a name that it carries, executions are known there, the node's own or told, and not yet
-- the grant that paid for them
pub record IsGrantUntold (c : Cluster) (es : List Event) (i : ℕ) (message : Message)
    (fault : Option NodeFault) : Type 0 where
  pub refused : fault ≡ Some faults.Overspent
  pub op : Operation
  pub carried : IsIn op message.ops
  pub lacks : LacksGrant c es (merged c es i message) (name_in op)

abbrev pub IsHonestReason : Cluster → List Event → ℕ → Message → Option NodeFault → Type 0
IsHonestReason c es i message fault = IsOwnReason fault ⊎ IsGrantUntold c es i message fault

-- so whichever node a message comes to, and however late, none refuses it for what it says, but where
-- executions are known and not yet the grant that paid for them
abbrev pub HonestMessages : Type 0
HonestMessages = (c : Cluster) (es : List Event) → c.nodes ≤ node_numbers → IsSchedule c es →
    (i : ℕ) (message : Message) → IsIn message (world c es).messages →
    IsHonest c es i message
    × IsHonestReason c es i message (refusal (kept c es i) (asks.Deliver (Ok message)) [])

-- so it is with the bytes of such a message, and a schedule allows to deliver them
abbrev pub HonestBytes : Type 0
HonestBytes = (c : Cluster) (es : List Event) → c.nodes ≤ node_numbers → IsSchedule c es →
    (i : ℕ) (message : Message) (bytes : List ℕ) → IsIn message (world c es).messages →
    message_read c.nodes bytes ≡ Ok message →
    Allows (world c es) i (Some (delivery_of (kept c es i) bytes))
    × IsHonestReason c es i message (refusal (kept c es i) (delivery_of (kept c es i) bytes) [])

-- where each node sends what differs, no such grant is left out: a message overspends no term at the
-- node that it is for, whatever was granted, and none refuses it for what it says
abbrev pub DeltaMessages : Type 0
DeltaMessages = (c : Cluster) (es : List Event) → IsDeltaSchedule c es →
    (i : ℕ) (message : Message) → IsIn message (world c es).messages →
    (message.to ≡ i → merge_overspends c es i message ≡ false)
    × IsOwnReason (refusal (kept c es i) (asks.Deliver (Ok message)) [])

-- nor the bytes that spell it
abbrev pub DeltaMessageBytes : Type 0
DeltaMessageBytes = (c : Cluster) (es : List Event) → IsDeltaSchedule c es →
    (i : ℕ) (message : Message) (bytes : List ℕ) → IsIn message (world c es).messages →
    message_read c.nodes bytes ≡ Ok message →
    AllowsDelta (world c es) i (Some (delivery_of (kept c es i) bytes))
    × IsOwnReason (refusal (kept c es i) (delivery_of (kept c es i) bytes) [])

-- what differs between any earlier state and a node's own may be sent
abbrev pub DeltaMaySend : Type 0
DeltaMaySend = (c : Cluster) (es : List Event) → IsSchedule c es →
    (i : ℕ) (base : State) (chosen : List Operation) → IsDelta base (state_of c es i) chosen →
    MaySend ((world c es).node i).ops chosen

-- so where each node sends what differs, the list is a schedule, and all that holds of schedules holds of it
abbrev pub DeltasAreSchedules : Type 0
DeltasAreSchedules = (c : Cluster) (es : List Event) → IsDeltaSchedule c es → IsSchedule c es

-- and each node's trace is legal: its calls, one after the other, are accepted and have the replies of the step
abbrev pub TracesAreLegal : Type 0
TracesAreLegal = (c : Cluster) (es : List Event) → IsDeltaSchedule c es → (i : ℕ) →
    IsLegal (config_of c i) ((world c es).trace i)

-- the event of an emit of node i that was answered with these bytes
abbrev pub emission : Cluster → List Event → ℕ → ℕ → List ℕ → Event
emission c es i to bytes = record { node = i; ask = emission_of (kept c es i) to bytes; words = [] }

-- bytes that a node made are read as a message from it to another, with the versions that it tells that
-- one; an emit of them is what a schedule allows next, and one in which each node sends what differs
pub record IsEmission (c : Cluster) (es : List Event) (i to : ℕ) (bytes : List ℕ) : Type 0 where
  pub message : Message
  pub read : message_read c.nodes bytes ≡ Ok message
  pub sent : message ≡ message_to i to (versions_told ((world c es).node i).marks to) message.ops
  pub differs : AllowsDelta (world c es) i (Some (emission_of (kept c es i) to bytes))
  pub allowed : IsSchedule c es → Allows (world c es) i (Some (emission_of (kept c es i) to bytes))
  pub schedule : IsSchedule c es → IsSchedule c (emission c es i to bytes ∷ es)
  pub delta_schedule : IsDeltaSchedule c es → IsDeltaSchedule c (emission c es i to bytes ∷ es)

-- so it is with bytes that tell what differs
abbrev pub DeltaIsEmission : Type 0
DeltaIsEmission = (c : Cluster) (es : List Event) (i to : ℕ) (bytes : List ℕ) →
    TellsDelta (kept c es i) to bytes → IsEmission c es i to bytes

-- and what a node tells another so is one string of bytes
abbrev pub DeltaIsOne : Type 0
DeltaIsOne = (k : Kept) (to : ℕ) (a b : List ℕ) → TellsDelta k to a → TellsDelta k to b → a ≡ b

-- the call of an emit that was answered with these bytes
abbrev pub emit_call : Kept → ℕ → List ℕ → Call
emit_call k to bytes =
    record { ask = emission_of k to bytes; words = []; reply = asks.IsEmitted (message_read k.config.nodes bytes) }

-- at the end of a trace it is legal exactly where the trace is, the emit isn't refused, and the bytes tell
-- what differs
abbrev pub IsLegalEmit : Kept → ℕ → List ℕ → Type 0
IsLegalEmit k to bytes = IsLegal k.config (k.trace ++ emit_call k to bytes ∷ [])
    ↔ (IsLegal k.config k.trace × (refusal k (bare_emit to) [] ≡ None) × TellsDelta k to bytes)

-- at version 0 a node's state is that of nothing
abbrev pub PastBegins : Type 0
PastBegins = (i : ℕ) (trace : List Call) → (replay i trace).past 0 ≡ fold []

-- at its present version it is what the node shows
abbrev pub PastIsPresent : Type 0
PastIsPresent = (i : ℕ) (trace : List Call) →
    (replay i trace).past (replay i trace).marks.version ≡ state_shown (replay i trace)

-- and at a version that the node has reached it stays as it is, whatever the node is called for later
abbrev pub PastStays : Type 0
PastStays = (i : ℕ) (trace later : List Call) (version : ℕ) →
    version ≤ (replay i trace).marks.version →
    (replay i (trace ++ later)).past version ≡ (replay i trace).past version

-- so of a node of a cluster it is, at a version that the node has had, the state that the node then had
abbrev pub PastIsState : Type 0
PastIsState = (c : Cluster) (later es : List Event) (i : ℕ) →
    ((world c (later ++ es)).node i).past ((world c es).node i).marks.version ≡ state_of c es i

-- a version of a node that another knows is one that the node has reached
abbrev pub KnownVersionIsReached : Type 0
KnownVersionIsReached = (c : Cluster) (es : List Event) → IsSchedule c es → (i j : ℕ) →
    ((world c es).node j).marks.known i ≤ ((world c es).node i).marks.version

-- where each node sends what differs, a node that knows a version of another holds all that the other
-- held at it
abbrev pub KnownVersionIsBelow : Type 0
KnownVersionIsBelow = (c : Cluster) (es : List Event) → IsDeltaSchedule c es → (i j version : ℕ) →
    ((world c es).node j).marks.known i ≡ version →
    IsBelow (((world c es).node i).past version) (state_of c es j)

-- so two nodes that know each other's present version hold the same state
abbrev pub KnownVersionsSameState : Type 0
KnownVersionsSameState = (c : Cluster) (es : List Event) → IsDeltaSchedule c es → (i j : ℕ) →
    ((world c es).node j).marks.known i ≡ ((world c es).node i).marks.version →
    ((world c es).node i).marks.known j ≡ ((world c es).node j).marks.version →
    state_of c es i ≡ state_of c es j

-- and what a node held, at any of its versions, of what another wrote is what that other held at one of its own
abbrev pub EachVersionSeesWhole : Type 0
EachVersionSeesWhole = (c : Cluster) (es : List Event) → IsDeltaSchedule c es → (i j version : ℕ) →
    version ≤ ((world c es).node i).marks.version →
    SeesWhole (world c es) (((world c es).node i).past version) j
