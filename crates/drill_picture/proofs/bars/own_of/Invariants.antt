use Rattle.std.proofs.Common.{◌≡◌, ◌==◌, ◌++◌, drop, filter}
use Rattle.drill_picture.proofs.bars.own_of.Given as goal

abbrev pub invariant-loop-place : goal.invariant-loop-place
invariant-loop-place l = l.own.items ++ filter (λ p. p.node == l.node) (drop l.place-index l.places)
    ≡ filter (λ p. p.node == l.node) l.places
