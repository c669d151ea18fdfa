use Rattle.std.proofs.Common.{◌≡◌, ◌++◌, drop}
use Rattle.std.specs.List.{flat_map}
use Rattle.std.specs.String.{string_bytes}
use Rattle.drill_picture.specs.Marks.{arrow_text}
use Rattle.drill_picture.proofs.marks.push_arrows.Given as goal

abbrev pub invariant-loop-arrow : goal.invariant-loop-arrow
invariant-loop-arrow l = string_bytes l.out ++ flat_map (arrow_text l.scale l.few) (drop l.arrow-index l.arrows)
    ≡ string_bytes l.initial.out ++ flat_map (arrow_text l.scale l.few) l.arrows
