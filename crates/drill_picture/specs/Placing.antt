-- Where calls stand: each in the first column that the calls before it allow, which are those of its own node, and the
-- one that made the message that it takes. So no arrow goes to the left, and calls that knew nothing of each other may
-- share a column.
use Rattle.std.specs.Prelude.{◌≡◌, ℕ, zero, suc, ◌==◌, Bool, true, false, List, [], ◌∷◌, ◌++◌, length, if◌then◌else◌, count_by, Option, Some, None}
use Rattle.std.specs.List.{list_any}
use Rattle.node_calls.specs.Told.{Told}
use Rattle.drill_picture.specs.declared.place.Place.{Place}
use Rattle.drill_picture.specs.Calls.{Traces, call_at, makes, taken_by}

-- one of the calls at these places made a message of these bytes
unfoldable pub is_made : Traces → List Place → List ℕ → Bool
is_made traces places bytes = list_any (λ p. makes bytes (call_at traces p.node p.index)) places

-- how many of the places are at a node
unfoldable pub count_at : ℕ → List Place → ℕ
count_at node places = count_by (λ p. p.node == node) places

-- what a call takes was made
abbrev pub is_fed : Traces → List Place → Option (List ℕ) → Bool
is_fed traces places None = true
is_fed traces places (Some bytes) = is_made traces places bytes

-- a call may stand behind these places
abbrev pub may_stand : Traces → List Place → Option Told → Bool
may_stand traces places None = false
may_stand traces places (Some call) = is_fed traces places (taken_by call.ask)

-- the next call of a node, in this column, if it may stand behind these places
abbrev pub place_if : Bool → ℕ → ℕ → ℕ → List Place
place_if stands node index column =
    if stands then record { node = node; index = index; column = column } ∷ [] else []

unfoldable pub next_at : Traces → List Place → ℕ → ℕ → List Place
next_at traces places column node =
    place_if (may_stand traces places (call_at traces node (count_at node places))) node (count_at node places) column

-- those of all nodes below a number
abbrev pub next_below : Traces → List Place → ℕ → ℕ → List Place
next_below traces places column zero = []
next_below traces places column (suc node) =
    next_below traces places column node ++ next_at traces places column node

-- a column behind these places: of each node the next call, where it may stand
unfoldable pub column_of : Traces → List Place → ℕ → List Place
column_of traces places column = next_below traces places column (length traces)

-- so many columns
abbrev pub columns_of : Traces → ℕ → List Place
columns_of traces zero = []
columns_of traces (suc column) =
    columns_of traces column ++ column_of traces (columns_of traces column) column

-- so many columns, and no call may stand in the next one
pub record AreAllColumns (traces : Traces) (columns : ℕ) (places : List Place) : Type 0 where
  pub each : places ≡ columns_of traces columns
  pub last : column_of traces places columns ≡ []
