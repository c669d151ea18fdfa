-- The points that calls set: their keys, and the operations that set them.
use Rattle.std.specs.Prelude.{ℕ, ◌+◌, List, [], ◌∷◌, map, Option, Some, None, Result, Ok, Err}
use Rattle.actions.specs.Value.{TermValue}
use Rattle.actions.specs.Canonical.{canonical}
use Rattle.actions.specs.Reading.{reading}
use Rattle.actions.specs.SettingReading.{setting_reading}
use Rattle.actions.specs.declared.fault.ActionFault.{ActionFault}
use Rattle.actions.specs.declared.fault.SettingFault.{SettingFault}
use Rattle.stamp_register.specs.Keys.{KeyValue}
use Rattle.operations.specs.Operations.{Operation, Set}
use Rattle.node_calls.specs.Asks.{Asked}
use Rattle.node_calls.specs.Asks as asks

-- a key that node i issues at a clock, with the canonical text of what is set, or none
abbrev pub new_key : ℕ → ℕ → Option (List ℕ) → KeyValue
new_key i clock body = record { clock = clock + 1; node = i; body = body }

abbrev pub body_read : Result (List TermValue) ActionFault → Option (List ℕ)
body_read (Ok terms) = Some (canonical terms)
body_read (Err fault) = None

-- the points that a setting text sets, and none where it is refused
abbrev pub points_read : Result (List (List ℕ × List TermValue)) SettingFault → List (List ℕ × List TermValue)
points_read (Ok points) = points
points_read (Err fault) = []

abbrev pub points_in : List ℕ → List (List ℕ × List TermValue)
points_in text = points_read (setting_reading text)

-- points with their canonical texts
abbrev pub settings_of : List (List ℕ × List TermValue) → List (List ℕ × Option (List ℕ))
settings_of points = map (λ point. (point.0, Some (canonical point.1))) points

-- the names that an ask sets or removes, in order, with their bodies
abbrev pub settings : Asked → List (List ℕ × Option (List ℕ))
settings (asks.Set name text) = (name, body_read (reading text)) ∷ []
settings (asks.Remove name) = (name, None) ∷ []
settings (asks.Load text) = settings_of (points_in text)
settings (asks.Pass name) = []
settings (asks.Shift name term to amount) = []
settings (asks.Grant name term amount) = []
settings (asks.Emit to versions chosen) = []
settings (asks.Deliver read) = []

-- the operations that set points, one after the other: their keys have consecutive clocks
abbrev pub operations_issued : ℕ → ℕ → List (List ℕ × Option (List ℕ)) → List Operation
operations_issued i clock [] = []
operations_issued i clock (setting ∷ rest) =
    Set setting.0 (new_key i clock setting.1) ∷ operations_issued i (clock + 1) rest
