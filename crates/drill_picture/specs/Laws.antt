-- What holds of every chart.
use Rattle.std.specs.Prelude.{◌≡◌, ℕ, ◌+◌, List, length, sum}
use Rattle.drill_picture.specs.declared.place.Place.{Place}
use Rattle.drill_picture.specs.Budgets.{BudgetTold}
use Rattle.drill_picture.specs.Calls.{Traces}
use Rattle.drill_picture.specs.Charts.{below}
use Rattle.drill_picture.specs.Rights.{RowTold}
use Rattle.drill_picture.specs.Scale.{ScaleTold}
use Rattle.drill_picture.specs.Stories.{story_behind}

-- what was spent, what all nodes hold and what is on its way to them are the rights that there are
abbrev pub AddsUp : RowTold → Type 0
AddsUp row = row.spent + (sum row.held + sum row.way) ≡ row.whole

-- so they are behind each column, whatever the calls are
abbrev pub ColumnsAddUp : Type 0
ColumnsAddUp =
    (traces : Traces) (scale : ScaleTold) (places : List Place) (b : BudgetTold) (bin : ℕ) →
    AddsUp (story_behind traces scale places b bin).row

-- and so high is what is drawn of the column
abbrev pub LevelsReachTheWhole : Type 0
LevelsReachTheWhole =
    (traces : Traces) (scale : ScaleTold) (places : List Place) (b : BudgetTold) (bin : ℕ) →
    below (story_behind traces scale places b bin).row (length traces)
    ≡ (story_behind traces scale places b bin).row.whole
