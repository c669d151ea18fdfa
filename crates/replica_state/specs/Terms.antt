-- What a matrix holds of one term of a point.
use Rattle.std.specs.Prelude.{ℕ, Option, Some, None}
use Rattle.std.specs.Borrow.{Bor}
use Rattle.counters.specs.Cells.{Shares}
use Rattle.operations.specs.declared.counted.Counted.{Counted}
use Rattle.replica_state.specs.Slots.{share_number}
use Rattle.replica_state.specs.declared.term_reader.TermReader.{TermReader}

-- the number of what is counted so of a term of which this budget is stored, or none
abbrev pub budget_number : Option (Bor Shares) → Counted → ℕ
budget_number None counted = 0
budget_number (Some budget) counted = share_number budget.now counted

abbrev pub term_number : TermReader → Counted → ℕ
term_number reader = budget_number reader.budget
