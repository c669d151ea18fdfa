use Rattle.std.proofs.Common.{◌≡◌, ◌++◌, map, string_bytes}
use Rattle.drill_picture.specs.Charts.{bands_below, levels_of}
use Rattle.drill_picture.proofs.charts.push_bands.Given as goal

abbrev pub invariant-loop-node : goal.invariant-loop-node
invariant-loop-node l = string_bytes l.out ≡ string_bytes l.initial.out
    ++ bands_below l.scale l.frame.top l.frame.most (map levels_of l.columns) l.node
