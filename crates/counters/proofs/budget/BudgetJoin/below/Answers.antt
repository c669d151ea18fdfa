use Rattle.counters.proofs.budget.BudgetJoin.below.Goals as goal

pub returns-clause-value : goal.returns-clause-value
returns-clause-value c = rw (← c.self.view_is, ← c.other.view_is) c.below.ensures.value

pub returns-clause-admitted_self : goal.returns-clause-admitted_self
returns-clause-admitted_self c = rw (← c.self.view_is) c.below.ensures.admitted_self

pub returns-clause-admitted_other : goal.returns-clause-admitted_other
returns-clause-admitted_other c = rw (← c.other.view_is) c.below.ensures.admitted_other
