use Rattle.std.proofs.Common.{◌≡◌, ◌++◌, drop, filter}
use Rattle.drill_picture.specs.Bars.{runs_told}
use Rattle.drill_picture.specs.Calls.{call_at}
use Rattle.drill_picture.proofs.bars.runs_of.Given as goal

abbrev pub invariant-loop-place : goal.invariant-loop-place
invariant-loop-place l = l.found.items ++ filter (λ p. runs_told (call_at l.traces p.node p.index)) (drop l.place-index l.places)
    ≡ filter (λ p. runs_told (call_at l.traces p.node p.index)) l.places
