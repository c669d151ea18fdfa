use Rattle.std.proofs.Common.{◌≡◌, ◌++◌, string_bytes}
use Rattle.drill_picture.specs.Bars.{all_bars_below}
use Rattle.drill_picture.proofs.bars.push_all_bars.Given as goal

abbrev pub invariant-loop-node : goal.invariant-loop-node
invariant-loop-node l = string_bytes l.out ≡ string_bytes l.initial.out ++ all_bars_below l.traces l.scale l.places l.node
