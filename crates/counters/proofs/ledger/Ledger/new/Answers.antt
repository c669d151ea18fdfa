use Rattle.counters.proofs.BalanceLemmas.{no-balances}
use Rattle.counters.proofs.ledger.Ledger.new.Goals as goal

pub invariant_of-result : goal.invariant_of-result
invariant_of-result c = rw (c.new.ensures, c.new-2.ensures) (no-balances c.new-3.result c.new-3.ensures)
