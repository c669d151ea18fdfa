use Rattle.std.proofs.Common.{◌≡◌, ◌++◌, drop, map, flat_map}
use Rattle.std.specs.Vec.{vec_items}
use Rattle.answers.specs.Warned.{warning_object}
use Rattle.answers.proofs.warned.push_warnings.Given as goal

abbrev pub invariant-loop-line : goal.invariant-loop-line
invariant-loop-line l =
    l.out.items ++ flat_map warning_object (map vec_items (drop l.line-index l.line-items))
    ≡ l.initial.out.items ++ flat_map warning_object (map vec_items l.line-items)
