-- What the placing keeps.
use Rattle.std.specs.Prelude.{◌≡◌, ℕ, ◌<◌, Bool, List, length, slice_index}
use Rattle.std.specs.BTreeSet.{contains_by}
use Rattle.std.specs.Cmp.Lexicographic.{slice_cmp}
use Rattle.std.specs.Ordering.{nat_cmp}
use Rattle.drill_picture.specs.declared.made.Made.{Made}
use Rattle.drill_picture.specs.declared.placing.Board.{Board}
use Rattle.drill_picture.specs.Calls.{Traces}
use Rattle.drill_picture.specs.Placing.{count_at, is_made}

-- whether a message of these bytes was added
unfoldable pub has_made : Made → List ℕ → Bool
has_made made bytes = contains_by (λ k. slice_cmp nat_cmp bytes k.now) made.set

pub record IsBoard (traces : Traces) (board : Board) : Type 0 where
  pub each : length board.positions.items ≡ length traces
  pub reached : (node : ℕ) → node < length traces →
      slice_index board.positions.items node ≡ count_at node board.places.items
  pub made : (bytes : List ℕ) → has_made board.made bytes ≡ is_made traces board.places.items bytes
