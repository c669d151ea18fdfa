use Rattle.std.proofs.Common.{◌≡◌, drop, map}
use Rattle.drill_picture.specs.Charts.{is_band, levels_of}
use Rattle.drill_picture.proofs.column.is_band.Given as goal

abbrev pub invariant-loop-column : goal.invariant-loop-column
invariant-loop-column l = is_band l.level (map levels_of (drop l.column-index l.columns)) ≡ is_band l.level (map levels_of l.columns)
