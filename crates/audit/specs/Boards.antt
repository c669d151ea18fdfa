-- What the placing keeps.
use Rattle.std.specs.Prelude.{◌≡◌, ℕ, ◌+◌, ◌-◌, ◌<◌, ◌↔◌, IsTrue, List, [], ◌∷◌, length, slice_index, reverse, Bool}
use Rattle.std.specs.BTreeSet.{contains_by}
use Rattle.std.specs.Cmp.Lexicographic.{slice_cmp}
use Rattle.std.specs.Ordering.{nat_cmp}
use Rattle.audit.specs.declared.placing.Board.{Board}
use Rattle.audit.specs.declared.placing.Placing.{Placing}
use Rattle.audit.specs.declared.placing.Placing.TheVariants.{All, Stuck}
use Rattle.audit.specs.declared.sent.Sent.{Sent}
use Rattle.audit.specs.Traces.{Traces}
use Rattle.audit.specs.Places.{count_at, IsSent, IsRun, Fits, IsStuckWith}

-- whether the bytes were added
unfoldable pub has_sent : Sent → List ℕ → Bool
has_sent s bytes = contains_by (λ k. slice_cmp nat_cmp bytes k.now) s.set

-- how many entries are beyond these positions
abbrev pub left : Traces → List ℕ → ℕ
left [] at = 0
left (trace ∷ traces) [] = 0
left (trace ∷ traces) (n ∷ at) = (length trace.calls - n) + left traces at

-- what was placed, newest first, the nodes' positions and the test of what was emitted belong together
pub record IsKept (traces : Traces) (placed : List (ℕ × ℕ)) (positions : List ℕ) (has : List ℕ → Bool) : Type 0 where
  pub run : IsRun traces placed
  pub each : length positions ≡ length traces
  pub reached : (node : ℕ) → node < length traces → slice_index positions node ≡ count_at node placed
  pub sent : (bytes : List ℕ) → IsTrue (has bytes) ↔ IsSent traces placed bytes

-- the places of a board, newest first
abbrev pub placed_on : Board → List (ℕ × ℕ)
placed_on board = reverse board.order.items

abbrev pub IsBoard : Traces → Board → Type 0
IsBoard traces board = IsKept traces (placed_on board) board.positions.items (has_sent board.sent)

abbrev pub NoneFits : Traces → Type 0
NoneFits traces = (order : List (ℕ × ℕ)) → Fits traces order → ⊥

-- all entries in an order that fits, or the place at which none does
abbrev pub IsPlacing : Traces → Placing → Type 0
IsPlacing traces (All order) = Fits traces order.items
IsPlacing traces (Stuck node index) = IsStuckWith traces node index × NoneFits traces
