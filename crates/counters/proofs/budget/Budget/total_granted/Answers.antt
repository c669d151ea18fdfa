use Rattle.counters.proofs.budget.Budget.total_granted.Goals as goal

pub returns : goal.returns
returns c = rw (← c.self.view_is, ← c.moved.ensures) c.total_of_own.ensures
