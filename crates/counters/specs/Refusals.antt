-- When a counter refuses. The refusals stand in their order, and the first that applies is the
-- answer.
use Rattle.std.specs.Prelude.{◌≡◌, ℕ, ◌+◌, ◌==◌, ◌⊎◌, not, List, [], ◌∷◌, ◌++◌, if◌then◌else◌, Option, Some, None, codes}
use Rattle.std.specs.Bool.{then_some}
use Rattle.std.specs.Fmt.{signed_decimal}
use Rattle.refusals.specs.Refusals.{first_fault}
use Rattle.counters.specs.Budgets.{Budget, has_rights, rights}
use Rattle.counters.specs.Cells.{Cells, cell, is_too_great}
use Rattle.counters.specs.declared.fault.CounterFault.{CounterFault}
use Rattle.counters.specs.declared.fault.CounterFault.TheVariants.{TooFewRights, CellFull, ZeroAmount, SameNode, OutOfMemory}

-- the node hasn't rights of this amount
abbrev pub too_few : Budget → ℕ → ℕ → Option CounterFault
too_few b node amount = then_some (not (has_rights b node amount)) (TooFewRights (rights b node))

-- no cell can hold this number
abbrev pub too_great : ℕ → Option CounterFault
too_great number = then_some (is_too_great number) CellFull

-- a hit of a node
abbrev pub hit_refusal : Cells → ℕ → Option CounterFault
hit_refusal cells node = too_great (cell cells node + 1)

-- a spend of a node
abbrev pub spend_refusal : Budget → ℕ → Option CounterFault
spend_refusal b node = first_fault (too_few b node 1 ∷ too_great (b.spent node + 1) ∷ [])

-- a shift of an amount from one node to another. Nothing is ever moved from a node to itself: what
-- stands at that place is what it granted, and doesn't count here
abbrev pub shift_refusal : Budget → ℕ → ℕ → ℕ → Option CounterFault
shift_refusal b from to amount = first_fault (
    too_few b from amount
    ∷ too_great ((if from == to then 0 else b.shifted from to) + amount)
    ∷ then_some (amount == 0) ZeroAmount
    ∷ then_some (from == to) SameNode
    ∷ [])

-- a grant of an amount more by a node that granted so much
abbrev pub grant_refusal : ℕ → ℕ → Option CounterFault
grant_refusal granted amount =
    first_fault (too_great (granted + amount) ∷ then_some (amount == 0) ZeroAmount ∷ [])

-- the fault is the refusal; where there is none, memory was refused for a cell that wasn't there
abbrev pub IsRefusal : Option CounterFault → ℕ → CounterFault → Type 0
IsRefusal refusal held fault =
    (refusal ≡ Some fault) ⊎ ((refusal ≡ None) × (held ≡ 0) × (fault ≡ OutOfMemory))

-- its number, its name, and what it holds
abbrev pub counter_fault_text : CounterFault → List ℕ
counter_fault_text (TooFewRights have) = codes "B1 TooFewRights have=" ++ signed_decimal have
counter_fault_text CellFull = codes "B2 CellFull"
counter_fault_text ZeroAmount = codes "B3 ZeroAmount"
counter_fault_text SameNode = codes "B4 SameNode"
counter_fault_text OutOfMemory = codes "B5 OutOfMemory"
