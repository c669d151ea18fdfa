use Rattle.counters.proofs.hits.HitCounter.total.Goals as goal

pub returns : goal.returns
returns c = rw (← c.self.view_is) c.total.ensures.value
