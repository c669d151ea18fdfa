use Rattle.std.proofs.Common.{◌≡◌, ◌==◌, ◌&&◌, drop, find}
use Rattle.drill_picture.proofs.heading.place_of.Given as goal

abbrev pub invariant-loop-place : goal.invariant-loop-place
invariant-loop-place l = find (λ p. (p.node == l.node) && (p.index == l.index)) (drop l.place-index l.places)
    ≡ find (λ p. (p.node == l.node) && (p.index == l.index)) l.places
