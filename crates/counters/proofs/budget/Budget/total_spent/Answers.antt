use Rattle.counters.proofs.budget.Budget.total_spent.Goals as goal

pub returns : goal.returns
returns c = rw (← c.self.view_is, ← c.spent.ensures) c.total.ensures.value
