use Rattle.std.proofs.Common.{◌≡◌, drop}
use Rattle.std.specs.List.{list_any}
use Rattle.drill_picture.specs.Rights.{cell_covers}
use Rattle.drill_picture.proofs.story.cells_cover.Given as goal

abbrev pub invariant-loop-cell : goal.invariant-loop-cell
invariant-loop-cell l =
    list_any (cell_covers l.term l.parcel) (drop l.cell-index l.cells) ≡ list_any (cell_covers l.term l.parcel) l.cells
