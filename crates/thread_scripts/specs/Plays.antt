-- What the nodes of a plan come to.
use Rattle.std.specs.Prelude.{◌≡◌, ℕ, ◌+◌, List, [], ◌∷◌, ◌++◌, length, map, Option, Vec}
use Rattle.std.specs.List.{flat_map}
use Rattle.std.specs.declared.alloc.Global.{Global}
use Rattle.node_steps.specs.declared.config.Config.{Config}
use Rattle.node_calls.specs.Asks.{call_from}
use Rattle.node_calls.specs.declared.receipt.Receipt.{Receipt}
use Rattle.packed_trace.specs.Packed.{Packed}
use Rattle.node_core.specs.Traces.{IsLegal}
use Rattle.node_registry.specs.Cells.{IsDrawnBy}
use Rattle.node_registry.specs.Refusals.{Refusal}
use Rattle.audit.specs.Receipts.{Lists}
use Rattle.audit.specs.Traces.{Traces}
use Rattle.gossip.specs.Mailboxes.{Place, new_place}
use Rattle.thread_plans.specs.declared.plan.Rounds.{Rounds}
use Rattle.thread_plans.specs.Plans.{BlockValue, PlanValue}
use Rattle.thread_warnings.specs.Runs.{FaultList, RunFaults}
use Rattle.thread_workers.specs.declared.waits.Await.{Await}
use Rattle.thread_workers.specs.Waits.{AreWaited}
use Rattle.thread_workers.specs.Workers.{AreListsAt, AreOfWorkers, of_node}
use Rattle.thread_scripts.specs.Calls.{AreOfStarts}
use Rattle.thread_scripts.specs.Gossips.{AreOfGossip, gossip_over}

-- a trace is legal for a node of this configuration, and its random draws are the first ones of this seed
pub record IsTraceOf (config : Config) (seed : List ℕ) (trace : Packed) : Type 0 where
  pub legal : IsLegal config (map (call_from config.nodes) trace.calls)
  pub drawn : IsDrawnBy config seed (map (call_from config.nodes) trace.calls)

-- this is so of each element of a list, the first of which has this number
abbrev pub AllFrom : {A : Type 0} → (ℕ → A → Type 0) → ℕ → List A → Type 0
AllFrom P n [] = Unit {0}
AllFrom P n (x ∷ xs) = P n x × AllFrom P (n + 1) xs

-- the configuration of a node of a plan
abbrev pub config_at : PlanValue → ℕ → Config
config_at plan node = record { node = node; nodes = plan.nodes; trace_cap = plan.cap }

-- traces of the plan's nodes, in their order
abbrev pub AreTracesOf : PlanValue → Traces → Type 0
AreTracesOf plan traces = AllFrom (λ node trace. IsTraceOf (config_at plan node) plan.seed trace) 0 traces

-- a node's wire before anything was sent, and the rounds of its gossip, if there is any
abbrev pub gossip_at : PlanValue → ℕ → Option (Place × Rounds)
gossip_at plan node = gossip_over (new_place plan.nodes node) plan.gossip

-- Behind lists that were there before: those of a node's blocks, and that of its gossip. The faults say why calls of
-- these blocks were refused, and these lines which of the node's waits were in vain, after the calls of its gossip
pub record AreOfWork (config : Config) (seed : List ℕ) (blocks : List BlockValue) (gossip : Option (Place × Rounds))
    (waits : List Await) (was lists : Lists) (faults : FaultList) (vain : List ℕ) : Type 0 where
  pub worked : Lists
  pub gossiped : Lists
  pub all : lists ≡ was ++ (worked ++ gossiped)
  pub made : AreOfWorkers config seed blocks worked faults
  pub told : AreOfGossip config seed gossip gossiped
  pub waited : AreWaited config seed (flat_map (λ list. list.items) gossiped) waits vain

-- The lists of a node of a plan: of what it does before its workers, of each of its blocks, and of its gossip. It gave
-- each to one seat, from its first call on. The faults say why calls before its workers were refused, and calls of
-- these; and the lines, which of these waits were in vain
pub record AreOfNode (config : Config) (seed : List ℕ) (plan : PlanValue) (gossip : Option (Place × Rounds))
    (waits : List Await) (lists : Lists) (faults : RunFaults) (vain : List ℕ) : Type 0 where
  pub starts : Vec Receipt Global
  pub refused : List Refusal
  pub given : AreListsAt config seed lists
  pub started : AreOfStarts config seed 0 plan.starts starts.items refused faults.0
  pub beside : AreOfWork config seed (of_node config.node plan.blocks) gossip waits (starts ∷ []) lists faults.1 vain

-- what a node comes to: its lists, why calls were refused, and the lines of its waits that were in vain
pub record Part : Type 0 where
  pub lists : Lists
  pub faults : RunFaults
  pub vain : List ℕ

-- the lists of so many nodes of a plan, from 0 on, why calls were refused, and which of these waits were in vain
pub record AreListsBelow (plan : PlanValue) (waits : List Await) (nodes : ℕ) (lists : Lists) (faults : RunFaults)
    (vain : List ℕ) : Type 0 where
  pub parts : List Part
  pub number : length parts ≡ nodes
  pub all : lists ≡ flat_map (λ (part : Part). part.lists) parts
  pub starts : faults.0 ≡ flat_map (λ (part : Part). part.faults.0) parts
  pub refused : faults.1 ≡ flat_map (λ (part : Part). part.faults.1) parts
  pub waited : vain ≡ flat_map (λ (part : Part). part.vain) parts
  pub each : AllFrom (λ node (part : Part).
      AreOfNode (config_at plan node) plan.seed plan (gossip_at plan node) waits part.lists part.faults part.vain) 0 parts

-- the lists of the plan's nodes, in their order, why calls were refused, and which of these waits were in vain
abbrev pub AreListsWaiting : PlanValue → List Await → Lists → RunFaults → List ℕ → Type 0
AreListsWaiting plan waits lists faults vain = AreListsBelow plan waits plan.nodes lists faults vain

-- those where nothing waits
abbrev pub AreListsOf : PlanValue → Lists → RunFaults → Type 0
AreListsOf plan lists faults = (vain : List ℕ) × AreListsWaiting plan [] lists faults vain
