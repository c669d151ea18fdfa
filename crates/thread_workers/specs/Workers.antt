-- What the workers of a node come to.
use Rattle.std.specs.Prelude.{◌≡◌, ℕ, ◌==◌, List, map, All, Vec}
use Rattle.std.specs.List.{AllZip, filter, flat_map}
use Rattle.std.specs.declared.alloc.Global.{Global}
use Rattle.node_steps.specs.declared.config.Config.{Config}
use Rattle.node_calls.specs.declared.receipt.Receipt.{Receipt}
use Rattle.node_registry.specs.Receipts.{AreGivenSince}
use Rattle.node_registry.specs.Refusals.{Refusal}
use Rattle.node_registry.specs.Seats.{new_seat}
use Rattle.thread_plans.specs.Plans.{BlockValue}
use Rattle.thread_warnings.specs.Runs.{FaultList, Lists}
use Rattle.thread_workers.specs.Asks.{asks_of_block}
use Rattle.thread_workers.specs.Calls.{AreOfThread, faults_of}

-- lists of receipts, each of which a node of this configuration and seed gave one seat from its first call on
abbrev pub AreListsAt : Config → List ℕ → Lists → Type 0
AreListsAt config seed lists = All (λ list. AreGivenSince config seed new_seat list.items) lists

-- those of blocks that are a node's
abbrev pub of_node : ℕ → List BlockValue → List BlockValue
of_node node blocks = filter (λ b. b.node == node) blocks

-- what a worker comes to: the list of its receipts, and what it was refused
abbrev pub Worked : Type 0
Worked = Vec Receipt Global × List Refusal

-- a thread came to this that was to do what a block asks
abbrev pub IsOfBlock : Config → List ℕ → BlockValue → Worked → Type 0
IsOfBlock config seed block worked = AreOfThread config seed (asks_of_block block) worked.0.items worked.1

-- a list for each of these blocks, in their order, and why calls of these blocks were refused
pub record AreOfWorkers (config : Config) (seed : List ℕ) (blocks : List BlockValue) (lists : Lists) (faults : FaultList)
    : Type 0 where
  pub workers : List Worked
  pub all : lists ≡ map (λ (w : Worked). w.0) workers
  pub refused : faults ≡ flat_map (λ (w : Worked). faults_of w.1) workers
  pub worked : AllZip (IsOfBlock config seed) blocks workers
