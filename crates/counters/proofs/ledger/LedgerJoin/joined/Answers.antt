use Rattle.std.specs.Prelude.{◌≤◌, length}
use Rattle.std.proofs.Common.{arith}
use Rattle.counters.proofs.BalanceLemmas.{joined-settled}
use Rattle.counters.proofs.CounterJoins.{shares_join}
use Rattle.counters.proofs.ledger.LedgerJoin.joined.Goals as goal

pub invariant_of-result : goal.invariant_of-result
invariant_of-result c =
    let l = c.self.inside in
    let o = c.other.inside in
    let made = c.in_ok-balances.balances in
    let len = c.in_ok-balances.ensures.len in
    let few = c.self.invariant.few in
    let few_other = c.other.invariant.few in
    let long : length l.balances ≤ length made = omega (arith, len, c.max-nodes.ensures, c.len.ensures, c.len-2.ensures) in
    let long_other : length o.balances ≤ length made =
    omega (arith, len, c.max-nodes.ensures, c.len.ensures, c.len-2.ensures) in
    joined-settled l.shares o.shares c.in_ok-shares.shares l.balances o.balances made c.self.invariant c.other.invariant
    (shares_join l.shares o.shares c.in_ok-shares.shares c.in_ok-shares.ensures) long long_other
    (omega (arith, len, few, few_other, c.max-nodes.ensures, c.len.ensures, c.len-2.ensures))
    c.in_ok-balances.ensures.read c.in_ok-balances.ensures.small

pub returns : goal.returns
returns c = rw (← c.self.view_is, ← c.other.view_is) c.in_ok-shares.ensures
