use Rattle.counters.proofs.ledger.LedgerJoin.below.Goals as goal

pub returns-clause-value : goal.returns-clause-value
returns-clause-value c = rw (← c.self.view_is, ← c.other.view_is) c.below.ensures.value
