use Rattle.std.proofs.Common.{◌≡◌, ◌++◌, map}
use Rattle.drill_picture.specs.Counted.{counted_below, counted_told}
use Rattle.drill_picture.proofs.counted.add_terms.Given as goal

abbrev pub invariant-loop-term : goal.invariant-loop-term
invariant-loop-term l =
    map counted_told l.found.items
    ≡ map counted_told l.initial.found.items ++ counted_below l.name l.stamp l.actions l.term
