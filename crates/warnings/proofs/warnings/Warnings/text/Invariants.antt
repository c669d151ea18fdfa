use Rattle.std.proofs.Common.{◌≡◌, ◌++◌, drop, map}
use Rattle.std.specs.List.{flat_map}
use Rattle.std.specs.Vec.{vec_items}
use Rattle.streams.specs.Fields.{output_line}
use Rattle.warnings.proofs.warnings.Warnings.text.Given as goal

abbrev pub invariant-loop-line : goal.invariant-loop-line
invariant-loop-line l =
    l.text.items ++ flat_map output_line (map vec_items (drop l.line-index l.line-items))
    ≡ flat_map output_line (map vec_items l.line-items)
