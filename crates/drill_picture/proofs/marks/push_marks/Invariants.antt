use Rattle.std.proofs.Common.{◌≡◌, ◌++◌, drop}
use Rattle.std.specs.List.{flat_map}
use Rattle.std.specs.String.{string_bytes}
use Rattle.drill_picture.specs.Marks.{mark_text}
use Rattle.drill_picture.proofs.marks.push_marks.Given as goal

abbrev pub invariant-loop-place : goal.invariant-loop-place
invariant-loop-place l = string_bytes l.out ++ flat_map (mark_text l.traces l.scale) (drop l.place-index l.places)
    ≡ string_bytes l.initial.out ++ flat_map (mark_text l.traces l.scale) l.places
