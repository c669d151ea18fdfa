use Rattle.counters.proofs.budget.Budget.spent.Goals as goal

pub returns : goal.returns
returns c = rw (← c.self.view_is, ← c.spent.ensures) c.number_of.ensures
