use Rattle.std.proofs.Common.{◌≡◌, length, map}
use Rattle.drill_picture.specs.Budgets.{budget_told}
use Rattle.drill_picture.specs.Charts.{columns_below, levels_of}
use Rattle.drill_picture.specs.Stories.{story_behind, story_told}
use Rattle.drill_picture.proofs.column.columns_of.Given as goal

abbrev pub invariant-loop-bin : goal.invariant-loop-bin
invariant-loop-bin l = record {
  story : story_told l.story ≡ story_behind l.traces l.scale l.places (budget_told l.budget) l.bin;
  columns : map levels_of l.columns.items ≡ columns_below l.traces l.scale l.places (budget_told l.budget) l.bin;
  few : length l.columns.items ≡ l.bin;
}
