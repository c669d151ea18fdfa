use Rattle.counters.proofs.ledger.LedgerJoin.is_bottom.Goals as goal

pub returns-clause-value : goal.returns-clause-value
returns-clause-value c = rw (← c.self.view_is) c.is_bottom.ensures.value
