use Rattle.std.proofs.Common.{◌≡◌, drop, fold}
use Rattle.drill_picture.specs.Budgets.{budget_told}
use Rattle.drill_picture.specs.Stories.{after_place, story_told}
use Rattle.drill_picture.proofs.story.Story.add_bin.Given as goal

abbrev pub invariant-loop-place : goal.invariant-loop-place
invariant-loop-place l =
    fold (after_place l.traces l.scale (budget_told l.budget) l.bin) (story_told l.self) (drop l.place-index l.places)
    ≡ fold (after_place l.traces l.scale (budget_told l.budget) l.bin) (story_told l.initial.self) l.places
