use Rattle.std.proofs.Common.{◌≡◌, ◌++◌, drop, map, string_bytes}
use Rattle.drill_picture.specs.Charts.{edge_from, levels_of}
use Rattle.drill_picture.proofs.charts.push_edge.Given as goal

abbrev pub invariant-loop-bin : goal.invariant-loop-bin
invariant-loop-bin l = string_bytes l.out ++ edge_from l.scale l.frame.top l.frame.most l.level l.bin l.last
    (map levels_of (drop l.bin l.columns))
    ≡ string_bytes l.initial.out ++ edge_from l.scale l.frame.top l.frame.most l.level 0 l.frame.top
    (map levels_of l.columns)
