-- Orders of the entries of traces, as places: a node, and an index of its trace.
use Rattle.std.specs.Prelude.{◌≡◌, ◌⊎◌, ℕ, ◌+◌, ◌<◌, ◌==◌, if◌then◌else◌, List, [], ◌∷◌, ◌++◌, length, reverse, Option, Some, None, option_and_then}
use Rattle.node_calls.specs.Told.{Told}
use Rattle.audit.specs.Messages.{bytes_emitted, bytes_delivered}
use Rattle.audit.specs.Traces.{Traces, trace_of, entry_at, audited}
use Rattle.audit.specs.Schedules.{Step, FitsTraces}

-- how many of the places are at a node
abbrev pub count_at : ℕ → List (ℕ × ℕ) → ℕ
count_at node [] = 0
count_at node (place ∷ places) = (if place.0 == node then 1 else 0) + count_at node places

-- the bytes that the entry at a place emitted, if it did
abbrev pub emitted_at : Traces → ℕ → ℕ → Option (List ℕ)
emitted_at traces node index = option_and_then bytes_emitted (entry_at traces node index)

-- an entry at one of the places emitted these bytes
abbrev pub IsSent : Traces → List (ℕ × ℕ) → List ℕ → Type 0
IsSent traces [] bytes = ⊥
IsSent traces (place ∷ places) bytes =
    (emitted_at traces place.0 place.1 ≡ Some bytes) ⊎ IsSent traces places bytes

-- after those that were placed earlier, this place is the next of its node, and what its entry delivers
-- was emitted
pub record IsReady (traces : Traces) (earlier : List (ℕ × ℕ)) (place : ℕ × ℕ) : Type 0 where
  pub next : place.1 ≡ count_at place.0 earlier
  pub entry : Told
  pub there : entry_at traces place.0 place.1 ≡ Some entry
  pub fed : (bytes : List ℕ) → bytes_delivered entry ≡ Some bytes → IsSent traces earlier bytes

-- each place is ready after those before it; the newest place stands first
abbrev pub IsRun : Traces → List (ℕ × ℕ) → Type 0
IsRun traces [] = Unit {0}
IsRun traces (place ∷ earlier) = IsReady traces earlier place × IsRun traces earlier

-- of an order of all entries, the first of them first, each is ready after those before it
pub record Fits (traces : Traces) (order : List (ℕ × ℕ)) : Type 0 where
  pub run : IsRun traces (reverse order)
  pub whole : (node : ℕ) → count_at node (reverse order) ≡ length (trace_of traces node)

-- the steps at places, of which the newest stands first
abbrev pub step_with : ℕ → Option Told → List Step
step_with node None = []
step_with node (Some entry) = record { node = node; entry = entry } ∷ []

abbrev pub steps_at : Traces → List (ℕ × ℕ) → List Step
steps_at traces [] = []
steps_at traces (place ∷ earlier) =
    step_with place.0 (entry_at traces place.0 place.1) ++ steps_at traces earlier

-- the order is one of a schedule
pub record IsOrder (nodes : ℕ) (traces : Traces) (order : List (ℕ × ℕ)) : Type 0 where
  pub places : Fits traces order
  pub schedule : FitsTraces (audited nodes) traces (steps_at traces (reverse order))

-- the node's next entry, if it has one, delivers bytes that no place emitted
abbrev pub IsStuckAt : Traces → List (ℕ × ℕ) → ℕ → Type 0
IsStuckAt traces placed node =
    (entry : Told) → entry_at traces node (count_at node placed) ≡ Some entry →
    (bytes : List ℕ) × (bytes_delivered entry ≡ Some bytes) × (IsSent traces placed bytes → ⊥)

-- After some run no node can go on, and this place is the next of the least node that has an entry left.
pub record IsStuckWith (traces : Traces) (node index : ℕ) : Type 0 where
  pub placed : List (ℕ × ℕ)
  pub run : IsRun traces placed
  pub stuck : (n : ℕ) → IsStuckAt traces placed n
  pub reached : index ≡ count_at node placed
  pub more : index < length (trace_of traces node)
  pub least : (n : ℕ) → n < node → count_at n placed ≡ length (trace_of traces n)
