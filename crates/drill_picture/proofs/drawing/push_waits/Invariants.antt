use Rattle.std.proofs.Common.{◌≡◌, ◌++◌, string_bytes}
use Rattle.drill_picture.specs.Picture.{waits_below}
use Rattle.drill_picture.proofs.drawing.push_waits.Given as goal

abbrev pub invariant-loop-node : goal.invariant-loop-node
invariant-loop-node l = string_bytes l.out ≡ string_bytes l.initial.out ++ waits_below l.traces l.scale l.places l.node
