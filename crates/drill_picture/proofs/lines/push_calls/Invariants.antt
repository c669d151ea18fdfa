use Rattle.std.proofs.Common.{◌≡◌, ◌++◌, drop, string_bytes}
use Rattle.std.specs.Prelude.{None}
use Rattle.drill_picture.specs.Lines.{calls_from}
use Rattle.drill_picture.proofs.lines.push_calls.Given as goal

abbrev pub invariant-loop-place : goal.invariant-loop-place
invariant-loop-place l = string_bytes l.out ++ calls_from l.traces l.width l.last l.at (drop l.place-index l.places)
    ≡ string_bytes l.initial.out ++ calls_from l.traces l.width None 0 l.places
