-- What is said of waits.
use Rattle.std.specs.Prelude.{◌≡◌, ◌==◌, ℕ, Bool, true, false, List, [], ◌∷◌, ◌++◌, length, nat_lt, slice_get, if◌then◌else◌, MatchBool, Some}
use Rattle.std.specs.List.{list_all}
use Rattle.node_steps.specs.declared.config.Config.{Config}
use Rattle.node_calls.specs.declared.receipt.Receipt.{Receipt}
use Rattle.node_core.specs.Traces.{state_known}
use Rattle.node_registry.specs.Cells.{Cell, IsLawfulAt}
use Rattle.thread_workers.specs.declared.waits.Await.{Await}
use Rattle.thread_workers.specs.Known.{has_come}

-- some lawful state of the node, with so many calls, knows what is waited for, or doesn't
abbrev pub IsSeen : Config → List ℕ → ℕ → Await → Bool → Type 0
IsSeen config seed calls wait known =
    (c : Cell) × IsLawfulAt config seed c × (length c.node.trace ≡ calls)
    × (has_come (state_known c.node) wait.name wait.stamp ≡ known)

-- the place of a wait, how many calls a node had, and whether it knew what is waited for
pub record LookValue : Type 0 where
  pub place : ℕ
  pub calls : ℕ
  pub known : Bool

-- so is it of the wait at this place
abbrev pub IsSeenAt : Config → List ℕ → List Await → ℕ → ℕ → Bool → Type 0
IsSeenAt config seed waits place calls known =
    (wait : Await) × (slice_get waits place ≡ Some wait) × IsSeen config seed calls wait known

-- the calls of these receipts are among so many first calls of the node
abbrev pub are_before : ℕ → List Receipt → Bool
are_before calls receipts = list_all (λ r. nat_lt r.index calls) receipts

-- A wait ended: some state of the node knows what it waits for. Or it was in vain: some state after the calls of these
-- receipts doesn't
abbrev pub IsEnded : Config → List ℕ → List Receipt → Await → Bool → Type 0
IsEnded config seed receipts wait known =
    (calls : ℕ) × IsSeen config seed calls wait known × (known ≡ false → are_before calls receipts ≡ true)

-- the line of a wait of this node if it was in vain, and nothing of any other wait
abbrev pub IsWaited : Config → List ℕ → List Receipt → Await → List ℕ → Type 0
IsWaited config seed receipts wait vain =
    MatchBool (wait.node == config.node)
    ((known : Bool) × IsEnded config seed receipts wait known × (vain ≡ (if known then [] else wait.line ∷ [])))
    (vain ≡ [])

-- those of all these waits, in their order
pub data AreWaited (config : Config) (seed : List ℕ) (receipts : List Receipt) : List Await → List ℕ → Type 0 where
  no_wait : AreWaited config seed receipts [] []
  next_wait : {waits : List Await} {vain : List ℕ} (wait : Await) (more : List ℕ)
      → AreWaited config seed receipts waits vain → IsWaited config seed receipts wait more
      → AreWaited config seed receipts (waits ++ wait ∷ []) (vain ++ more)
