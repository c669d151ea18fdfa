-- What holds of all traces.
use Rattle.std.specs.Prelude.{◌≡◌, ℕ, ◌+◌, ◌≤◌, List, ◌↔◌, Some, slice_get}
use Rattle.cluster_model.specs.Worlds.{Cluster, Event}
use Rattle.cluster_model.specs.Laws.{EscrowHolds}
use Rattle.audit.specs.declared.total.Total.{Total}
use Rattle.audit.specs.Totals.{AreTotals}
use Rattle.audit.specs.Traces.{Traces, IsSized, AllLegal}
use Rattle.audit.specs.Schedules.{SomeFits}
use Rattle.audit.specs.Places.{Fits, IsStuckWith}

-- a schedule fits exactly where each trace is legal alone and some order of places does
abbrev pub OrdersAreSchedules : Type 0
OrdersAreSchedules = (nodes : ℕ) (traces : Traces) → IsSized nodes traces →
    SomeFits nodes traces ↔ (AllLegal nodes traces × ((order : List (ℕ × ℕ)) × Fits traces order))

-- the place at which every order gets stuck is one alone
abbrev pub StuckPlaceIsOne : Type 0
StuckPlaceIsOne = (traces : Traces) (n i m j : ℕ) →
    IsStuckWith traces n i → IsStuckWith traces m j → (n ≡ m) × (i ≡ j)

-- where the escrow law holds no total has more executions than its count and what was granted
abbrev pub TotalsAreKept : Type 0
TotalsAreKept = (c : Cluster) (es : List Event) (totals : List Total) → EscrowHolds c es → AreTotals c es totals →
    (place : ℕ) (t : Total) → slice_get totals place ≡ Some t → t.executed ≤ t.count + t.granted
