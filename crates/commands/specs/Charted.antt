-- Which counted terms of a drill have a chart.
use Rattle.std.specs.Prelude.{ℕ, ◌+◌, ◌-◌, ◌&&◌, Bool, List, [], ◌∷◌, ◌++◌, length, nat_le, nat_lt, fold, if◌then◌else◌, Result, Ok, Err}
use Rattle.audit.specs.declared.auditing.AuditYes.{AuditYes}
use Rattle.audit.specs.declared.fault.AuditFault.{AuditFault}
use Rattle.audit.specs.declared.total.Total.{Total}
use Rattle.drill_picture.specs.Budgets.{BudgetTold}

-- its rights are fewer than 2^64
abbrev pub has_chart : Total → Bool
has_chart total = nat_le total.granted (18446744073709551615 - total.count)

abbrev pub budget_of : Total → BudgetTold
budget_of total = record { name = total.name; stamp = total.stamp; term = total.term; count = total.count }

-- the first six of those
abbrev pub with_total : List BudgetTold → Total → List BudgetTold
with_total budgets total =
    if has_chart total && nat_lt (length budgets) 6 then budgets ++ budget_of total ∷ [] else budgets

abbrev pub charted : List Total → List BudgetTold
charted totals = fold with_total [] totals

-- the first six of counted terms
abbrev pub with_counted : List BudgetTold → BudgetTold → List BudgetTold
with_counted budgets b = if nat_lt (length budgets) 6 then budgets ++ b ∷ [] else budgets

abbrev pub first_counted : List BudgetTold → List BudgetTold
first_counted counted = fold with_counted [] counted

-- where an audit says yes, those of its totals, and else the first that the calls counted
abbrev pub budgets_of : Result AuditYes AuditFault → List BudgetTold → List BudgetTold
budgets_of (Ok found) counted = charted found.totals.items
budgets_of (Err fault) counted = first_counted counted
