use Rattle.counters.proofs.budget.BudgetJoin.joined.Goals as goal

pub returns : goal.returns
returns c = rw (← c.self.view_is, ← c.other.view_is) c.in_ok-ledger.ensures
