use Rattle.std.proofs.Common.{◌≡◌, ◌≤◌, [], drop, fold, length, map}
use Rattle.drill_picture.specs.Budgets.{budget_told}
use Rattle.drill_picture.specs.Counted.{counted_told}
use Rattle.commands.specs.Charted.{with_counted}
use Rattle.commands.proofs.charted.first_counted.Given as goal

abbrev pub invariant-loop-one : goal.invariant-loop-one
invariant-loop-one l = record {
  budgets : fold with_counted (map budget_told l.found.items) (map counted_told (drop l.one-index l.counted))
      ≡ fold with_counted [] (map counted_told l.counted);
  few : length l.found.items ≤ 6;
}
