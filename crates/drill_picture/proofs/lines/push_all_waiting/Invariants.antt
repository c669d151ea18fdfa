use Rattle.std.proofs.Common.{◌≡◌, ◌++◌, string_bytes}
use Rattle.drill_picture.specs.Lines.{waiting_below}
use Rattle.drill_picture.proofs.lines.push_all_waiting.Given as goal

abbrev pub invariant-loop-node : goal.invariant-loop-node
invariant-loop-node l = string_bytes l.out ≡ string_bytes l.initial.out ++ waiting_below l.traces l.places l.node
