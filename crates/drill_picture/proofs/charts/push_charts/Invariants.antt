use Rattle.std.proofs.Common.{◌≡◌, ◌+◌, ◌*◌, ◌++◌, drop, map, string_bytes}
use Rattle.drill_picture.specs.Budgets.{budget_told}
use Rattle.drill_picture.specs.Charts.{charts_from}
use Rattle.drill_picture.proofs.charts.push_charts.Given as goal

abbrev pub invariant-loop-budget : goal.invariant-loop-budget
invariant-loop-budget l = record {
  next : l.next ≡ l.top + 130 * l.budget-index;
  text : string_bytes l.out ++ charts_from l.traces l.scale l.places l.next
      (map budget_told (drop l.budget-index l.budgets))
      ≡ string_bytes l.initial.out ++ charts_from l.traces l.scale l.places l.top (map budget_told l.budgets);
}
