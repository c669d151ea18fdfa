use Rattle.std.proofs.Common.{◌≡◌, ◌++◌, string_bytes}
use Rattle.drill_picture.specs.Bars.{bars_below}
use Rattle.drill_picture.proofs.bars.push_bars_below.Given as goal

abbrev pub invariant-loop-bin : goal.invariant-loop-bin
invariant-loop-bin l = string_bytes l.out ≡ string_bytes l.initial.out ++ bars_below l.scale l.node l.places l.bin
