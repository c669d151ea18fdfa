use Rattle.std.proofs.Common.{◌≡◌, ◌≤◌, [], drop, fold, length, map}
use Rattle.drill_picture.specs.Budgets.{budget_told}
use Rattle.commands.specs.Charted.{with_total}
use Rattle.commands.proofs.charted.charted.Given as goal

abbrev pub invariant-loop-total : goal.invariant-loop-total
invariant-loop-total l = record {
  budgets : fold with_total (map budget_told l.found.items) (drop l.total-index l.totals) ≡ fold with_total [] l.totals;
  few : length l.found.items ≤ 6;
}
