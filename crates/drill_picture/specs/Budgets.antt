-- Counted terms, whose rights charts show.
use Rattle.std.specs.Prelude.{ℕ, Bool, ◌==◌, ◌&&◌, List}
use Rattle.std.specs.Str.{bytes_eq}
use Rattle.stamp_register.specs.declared.key.Stamp.{Stamp}
use Rattle.drill_picture.specs.declared.budget.Budget.{Budget}

-- a counted term of a setting: the point's name, the setting's stamp, the term's number and its count
pub record BudgetTold : Type 0 where
  pub name : List ℕ
  pub stamp : Stamp
  pub term : ℕ
  pub count : ℕ

abbrev pub budget_told : Budget → BudgetTold
budget_told b = record { name = b.name.now; stamp = b.stamp; term = b.term; count = b.count }

abbrev pub same_stamp : Stamp → Stamp → Bool
same_stamp a b = (a.clock == b.clock) && (a.node == b.node)

-- whether a name and the number of a term are the budget's
abbrev pub is_of_budget : BudgetTold → List ℕ → ℕ → Bool
is_of_budget b name term = bytes_eq name b.name && (term == b.term)
