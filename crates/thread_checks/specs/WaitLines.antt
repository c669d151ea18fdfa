-- What a clause reads of waits.
use Rattle.std.specs.Prelude.{List, [], ◌∷◌, map, Option, Some, None}
use Rattle.thread_workers.specs.declared.waits.Await.{Await}
use Rattle.thread_checks.specs.declared.awaits.Place.{Place}
use Rattle.thread_checks.specs.Waits.{WaitLine, WaitPlace}

-- waits, as those who play a plan are given them
abbrev pub Waits : Type 0
Waits = List Await

abbrev pub wait_line : Await → WaitLine
wait_line wait = record { line = wait.line; node = wait.node; name = wait.name; stamp = wait.stamp }

abbrev pub wait_lines : Waits → List WaitLine
wait_lines waits = map (λ (wait : Await). wait_line wait) waits

abbrev pub wait_list : Option Await → List WaitLine
wait_list None = []
wait_list (Some wait) = wait_line wait ∷ []

abbrev pub place_value : Place → WaitPlace
place_value place = record { line = place.line; node = place.node }
