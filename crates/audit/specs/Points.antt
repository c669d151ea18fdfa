-- The points that an ask sets, with what they do.
use Rattle.std.specs.Prelude.{ℕ, List, [], ◌∷◌, Result, Ok, Err, if◌then◌else◌}
use Rattle.actions.specs.Value.{TermValue}
use Rattle.actions.specs.Names.{is_name}
use Rattle.actions.specs.Reading.{reading}
use Rattle.actions.specs.declared.fault.ActionFault.{ActionFault}
use Rattle.node_calls.specs.Asks.{Asked}
use Rattle.node_calls.specs.Asks as asks
use Rattle.node_steps.specs.Settings.{points_in}

abbrev pub Points : Type 0
Points = List (List ℕ × List TermValue)

-- a text that is refused sets none
abbrev pub point_read : List ℕ → Result (List TermValue) ActionFault → Points
point_read name (Ok terms) = (name, terms) ∷ []
point_read name (Err fault) = []

abbrev pub point_in : List ℕ → List ℕ → Points
point_in name text = if is_name name then point_read name (reading text) else []

abbrev pub points_set : Asked → Points
points_set (asks.Set name text) = point_in name text
points_set (asks.Load text) = points_in text
points_set _ = []
