use Rattle.std.proofs.Common.{◌≡◌, ◌++◌, string_bytes}
use Rattle.drill_picture.specs.Lines.{names_below}
use Rattle.drill_picture.proofs.lines.push_names.Given as goal

abbrev pub invariant-loop-node : goal.invariant-loop-node
invariant-loop-node l = string_bytes l.out ≡ string_bytes l.initial.out ++ names_below l.width l.node
