-- What is said of lines whose calls a node refused before its workers.
use Rattle.std.specs.Prelude.{◌≡◌, ◌<◌, ℕ, ◌+◌, ◌==◌, Bool, List, [], ◌∷◌, ◌++◌, is_some, length, nat_lt, slice_index_or, slice_set, if◌then◌else◌, Option, Some, None, option_map, codes, decimal}
use Rattle.std.specs.List.{find}
use Rattle.node_calls.specs.declared.fault.NodeFault.{NodeFault}
use Rattle.thread_plans.specs.BadLines.{count_one, most_named}
use Rattle.thread_warnings.specs.Runs.{StartFaults}
use Rattle.thread_warnings.specs.Unfit.{unfit_said}

-- ---- by the places of lines

-- why the call of the line at a place was refused, if it was: the first fault that has this place
abbrev pub is_at : ℕ → ℕ × NodeFault → Bool
is_at place refused = refused.0 == place

abbrev pub fault_at : StartFaults → ℕ → Option NodeFault
fault_at refused place = option_map (λ (r : ℕ × NodeFault). r.1) (find (is_at place) refused)

-- what stands at a place of a list, and the list with a fault there, unless one is
abbrev pub held_at : List (Option NodeFault) → ℕ → Option NodeFault
held_at faults place = slice_index_or faults place None

abbrev pub with_fault : List (Option NodeFault) → ℕ × NodeFault → List (Option NodeFault)
with_fault faults refused =
    if is_some (held_at faults refused.0) then faults else slice_set faults refused.0 (Some refused.1)

-- a list has at each place of so many lines why the call of that line was refused, if it was
abbrev pub AreByPlace : ℕ → StartFaults → List (Option NodeFault) → Type 0
AreByPlace lines refused faults =
    (length faults ≡ lines) × ((place : ℕ) → place < lines → held_at faults place ≡ fault_at refused place)

-- ---- what is said

-- of a line of this number, behind so many that were refused
abbrev pub start_refused : ℕ → ℕ → Option NodeFault → List (List ℕ)
start_refused named number fault = if nat_lt named most_named then unfit_said number fault else []

abbrev pub refused_sum : ℕ → List (List ℕ)
refused_sum named =
    if nat_lt most_named named then (codes "rejected start lines: " ++ decimal named) ∷ [] else []

-- of lines with these numbers, the first of which has this place
abbrev pub refused_from : StartFaults → ℕ → ℕ → List ℕ → List (List ℕ)
refused_from refused place named [] = refused_sum named
refused_from refused place named (number ∷ numbers) =
    start_refused named number (fault_at refused place)
    ++ refused_from refused (place + 1) (named + count_one (is_some (fault_at refused place))) numbers

-- of all lines with these numbers
unfoldable pub refused_starts : List ℕ → StartFaults → List (List ℕ)
refused_starts numbers refused = refused_from refused 0 0 numbers
