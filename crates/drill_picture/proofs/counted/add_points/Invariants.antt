use Rattle.std.proofs.Common.{◌≡◌, ◌++◌, drop, map}
use Rattle.drill_picture.specs.Counted.{counted_loaded, counted_told}
use Rattle.drill_picture.proofs.counted.add_points.Given as goal

abbrev pub invariant-loop-name : goal.invariant-loop-name
invariant-loop-name l =
    map counted_told l.found.items ++ counted_loaded l.node (drop l.name-index l.points) l.known
    ≡ map counted_told l.initial.found.items ++ counted_loaded l.node l.points l.initial.known
