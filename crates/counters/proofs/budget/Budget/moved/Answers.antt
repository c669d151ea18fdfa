use Rattle.counters.proofs.budget.Budget.moved.Goals as goal

pub returns : goal.returns
returns c = rw (← c.self.view_is, ← c.moved.ensures) c.number_in_row.ensures
