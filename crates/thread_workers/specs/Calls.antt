-- Which calls receipts are of, and what workers hand back.
use Rattle.std.specs.Prelude.{◌≡◌, ◌≢◌, ◌⊎◌, ℕ, Bool, true, false, List, [], ◌∷◌, map}
use Rattle.std.specs.List.{list_any}
use Rattle.node_steps.specs.declared.config.Config.{Config}
use Rattle.node_calls.specs.declared.ask.Ask.{Ask}
use Rattle.node_calls.specs.declared.fault.NodeFault.{NodeFault}
use Rattle.node_calls.specs.declared.fault.NodeFault.TheVariants as faults
use Rattle.node_calls.specs.declared.receipt.Receipt.{Receipt}
use Rattle.node_calls.specs.Asks.{ask_value_first}
use Rattle.node_calls.specs.Told.{AskTold, ask_told}
use Rattle.node_registry.specs.declared.workers.Done.{Done}
use Rattle.node_registry.specs.Receipts.{IsRefused}
use Rattle.node_registry.specs.Refusals.{Refusal}
use Rattle.thread_warnings.specs.Runs.{FaultList}

-- Calls that were asked in this order: each was accepted, and has the next receipt; or the node refused it, otherwise
-- than as out of memory, and it is the next of the refusals, which a registry alone notes
pub data AreMade (config : Config) (seed : List ℕ) : List AskTold → List Receipt → List Refusal → Type 0 where
  no_call : AreMade config seed [] [] []
  accepted : {r : Receipt} {asks : List AskTold} {receipts : List Receipt} {refusals : List Refusal}
      → AreMade config seed asks receipts refusals
      → AreMade config seed (ask_told r.entry.ask ∷ asks) (r ∷ receipts) refusals
  refused : (ask : Ask) {fault : NodeFault} {asks : List AskTold} {receipts : List Receipt} {refusals : List Refusal}
      → IsRefused config seed (ask_value_first config.nodes ask) fault → fault ≢ faults.OutOfMemory
      → AreMade config seed asks receipts refusals
      → AreMade config seed (ask_told ask ∷ asks) receipts ((ask, fault) ∷ refusals)

-- why calls were refused, one after the other
abbrev pub faults_of : List Refusal → FaultList
faults_of refusals = map (λ (r : Refusal). r.1) refusals

-- ---- what workers do

-- a call that was refused as out of memory
abbrev pub is_memory : NodeFault → Bool
is_memory faults.OutOfMemory = true
is_memory _ = false

-- one of these was
abbrev pub lack_memory : List (ℕ × NodeFault) → Bool
lack_memory refusals = list_any (λ f. is_memory f.1) refusals

-- of a thread that was to make these calls, and what it was refused; of none, where it couldn't start
abbrev pub AreOfThread : Config → List ℕ → List AskTold → List Receipt → List Refusal → Type 0
AreOfThread config seed asks receipts refusals =
    AreMade config seed asks receipts refusals ⊎ ((receipts ≡ []) × (refusals ≡ []))

-- why a worker's calls were refused, each of which has the number of its call
abbrev pub faults_in : List (ℕ × NodeFault) → FaultList
faults_in told = map (λ (f : ℕ × NodeFault). f.1) told

abbrev pub faults_told : {L : Type 0} → Done L → FaultList
faults_told d = faults_in d.faults.items

-- what a worker handed back that was to make these calls: why they were refused, and where none lacked memory, what
-- they came to
abbrev pub HandsBack : {L : Type 0} → Config → List ℕ → List AskTold → Done L → Type 0
HandsBack config seed asks d =
    (faults_told d ≡ faults_of d.refusals)
    × (lack_memory d.faults.items ≡ false → AreOfThread config seed asks d.receipts.items d.refusals)
