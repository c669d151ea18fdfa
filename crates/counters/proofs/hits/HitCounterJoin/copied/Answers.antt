use Rattle.counters.proofs.hits.HitCounterJoin.copied.Goals as goal

pub returns : goal.returns
returns c = rw (← c.self.view_is) c.in_ok-hits.ensures
