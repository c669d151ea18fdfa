-- Which calls receipts are of that a node makes before its workers start.
use Rattle.std.specs.Prelude.{◌≡◌, ◌⊎◌, ◌==◌, ◌+◌, ℕ, MatchBool, List, [], ◌∷◌, ◌++◌, map, Option, Some, None}
use Rattle.node_steps.specs.declared.config.Config.{Config}
use Rattle.node_calls.specs.declared.fault.NodeFault.{NodeFault}
use Rattle.node_calls.specs.declared.receipt.Receipt.{Receipt}
use Rattle.node_registry.specs.Refusals.{Refusal}
use Rattle.gossip.specs.declared.report.GossipReport.{GossipReport}
use Rattle.gossip.specs.declared.report.Ended.TheVariants as ends
use Rattle.gossip.specs.Spreads.{Spreads, SpreadsNothing}
use Rattle.thread_plans.specs.Lines.{StartValue, makes, spreads}
use Rattle.thread_warnings.specs.Runs.{FaultList, StartFaults}
use Rattle.thread_workers.specs.Calls.{AreMade, faults_of}

-- receipts were added behind others, and refusals behind others, of these faults
abbrev pub Adds : (List Receipt → List Refusal → Type 0) → List Receipt → List Receipt → List Refusal → List Refusal
    → FaultList → Type 0
Adds Are was now noted noted_now why =
    (more : List Receipt) × (refusals : List Refusal) × (now ≡ was ++ more) × (noted_now ≡ noted ++ refusals)
    × (why ≡ faults_of refusals) × Are more refusals

-- a spread that wasn't ended by memory
abbrev pub AreOfSpread : Config → List ℕ → List ℕ → List Receipt → Type 0
AreOfSpread config seed name receipts =
    (r : GossipReport) × (r.receipts.items ≡ receipts) × (r.ended ≡ ends.Done)
    × (Spreads config seed name r ⊎ SpreadsNothing name r)

-- a spread notes no refusal
abbrev pub AreOfStart : Config → List ℕ → StartValue → List Receipt → List Refusal → Type 0
AreOfStart config seed (makes ask) receipts refusals = AreMade config seed (ask ∷ []) receipts refusals
AreOfStart config seed (spreads name) receipts refusals = AreOfSpread config seed name receipts × (refusals ≡ [])

-- a line of another node does nothing here
abbrev pub AreOfLine : Config → List ℕ → ℕ × StartValue → List Receipt → List Refusal → Type 0
AreOfLine config seed line receipts refusals =
    MatchBool (line.0 == config.node) (AreOfStart config seed line.1 receipts refusals)
    ((receipts ≡ []) × (refusals ≡ []))

-- why the call of one line was refused, if it was
abbrev pub fault_list : Option NodeFault → FaultList
fault_list None = []
fault_list (Some fault) = fault ∷ []

-- those of a line before the workers, each with the place of the line among those of the plan
abbrev pub placed : ℕ → FaultList → StartFaults
placed place why = map (λ (fault : NodeFault). (place, fault)) why

-- lines, in their order, the first of which has this place
pub data AreOfStarts (config : Config) (seed : List ℕ)
    : ℕ → List (ℕ × StartValue) → List Receipt → List Refusal → StartFaults → Type 0 where
  no_line : {place : ℕ} → AreOfStarts config seed place [] [] [] []
  next_line : {place : ℕ} {line : ℕ × StartValue} {lines : List (ℕ × StartValue)} {later : StartFaults}
      (first rest : List Receipt) (refused others : List Refusal)
      → AreOfLine config seed line first refused → AreOfStarts config seed (place + 1) lines rest others later
      → AreOfStarts config seed place (line ∷ lines) (first ++ rest) (refused ++ others)
      (placed place (faults_of refused) ++ later)
