use Rattle.std.proofs.Common.{◌≡◌, ◌++◌, drop}
use Rattle.std.specs.List.{flat_map}
use Rattle.drill_picture.specs.Arrows.{arrow_to}
use Rattle.drill_picture.proofs.arrow.arrows.Given as goal

abbrev pub invariant-loop-place : goal.invariant-loop-place
invariant-loop-place l = l.found.items ++ flat_map (arrow_to l.traces l.places) (drop l.place-index l.places)
    ≡ flat_map (arrow_to l.traces l.places) l.places
