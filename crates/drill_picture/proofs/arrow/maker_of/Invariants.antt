use Rattle.std.proofs.Common.{◌≡◌, drop, find}
use Rattle.drill_picture.specs.Calls.{call_at, makes}
use Rattle.drill_picture.proofs.arrow.maker_of.Given as goal

abbrev pub invariant-loop-place : goal.invariant-loop-place
invariant-loop-place l = find (λ p. makes l.bytes (call_at l.traces p.node p.index)) (drop l.place-index l.places)
    ≡ find (λ p. makes l.bytes (call_at l.traces p.node p.index)) l.places
