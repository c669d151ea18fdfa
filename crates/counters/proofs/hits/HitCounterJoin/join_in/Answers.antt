use Rattle.counters.proofs.hits.HitCounterJoin.join_in.Goals as goal

pub returns-clause-ok : goal.returns-clause-ok
returns-clause-ok c = rw (← c.self.view_is, ← c.other.view_is) c.join_in.ensures.ok
