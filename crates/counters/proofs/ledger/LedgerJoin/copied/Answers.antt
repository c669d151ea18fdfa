use Rattle.std.proofs.Common.{arith}
use Rattle.counters.proofs.BalanceLemmas.{copied-settled}
use Rattle.counters.proofs.CounterJoins.{shares_order}
use Rattle.counters.proofs.ledger.LedgerJoin.copied.Goals as goal

pub invariant_of-result : goal.invariant_of-result
invariant_of-result c =
    let l = c.self.inside in
    let copy = c.in_ok-shares.shares in
    copied-settled l.shares copy l.balances c.in_ok-balances.balances c.self.invariant
    ((shares_order copy l.shares).0 c.in_ok-shares.ensures.below) (omega (arith, c.in_ok-balances.ensures.len, c.len.ensures))
    c.in_ok-balances.ensures.read c.in_ok-balances.ensures.small

pub returns : goal.returns
returns c = rw (← c.self.view_is) c.in_ok-shares.ensures
