use Rattle.counters.proofs.hits.HitCounterJoin.is_bottom.Goals as goal

pub returns-clause-value : goal.returns-clause-value
returns-clause-value c = rw (← c.self.view_is) c.is_bottom.ensures.value

pub returns-clause-admitted_self : goal.returns-clause-admitted_self
returns-clause-admitted_self c = rw (← c.self.view_is) c.is_bottom.ensures.admitted_self
