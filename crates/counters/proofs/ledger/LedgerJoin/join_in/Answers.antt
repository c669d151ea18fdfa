use Rattle.std.specs.Prelude.{length}
use Rattle.std.proofs.Common.{ap, arith, subst, sym}
use Rattle.counters.specs.Cells.{Shares}
use Rattle.counters.specs.Balances.{AreBalances, AreReadFrom}
use Rattle.counters.proofs.BalanceLemmas.{joined-settled}
use Rattle.counters.proofs.CounterJoins.{shares_join}
use Rattle.counters.proofs.ledger.LedgerJoin.join_in.Goals.{then-len, else-len}
use Rattle.counters.proofs.ledger.LedgerJoin.join_in.Goals as goal

pub invariant_of-self-2 : goal.invariant_of-self-2
invariant_of-self-2 c =
    let l = c.self.inside in
    let o = c.other.inside in
    let made = c.settle.new.self in
    let len = c.settle.ensures.len in
    let few = c.self.invariant.few in
    let few_other = c.other.invariant.few in
    let join = shares_join l.shares o.shares c.join_in.new.self c.in_ok-join_in.ensures.ok in
    elim c.if-len.branch [
      | then-len w ↦
          let shares = ap (λ (i : _). i.shares) w.self-inside-is in
          let items = ap (λ (i : _). length i.balances) w.self-inside-is in
          subst (λ (s : Shares). AreBalances s made) (sym shares)
          (joined-settled l.shares o.shares c.join_in.new.self l.balances o.balances made c.self.invariant
          c.other.invariant join (omega (arith, len, items, w.if-len.true, c.len.ensures, c.len-2.ensures))
          (omega (arith, len, items)) (omega (arith, len, items, few_other))
          (subst (λ (s : Shares). AreReadFrom s made) shares c.settle.ensures.read) c.settle.ensures.small)
      | else-len w ↦
          let shares = ap (λ (i : _). i.shares) w.self-inside-is in
          let items = ap (λ (i : _). length i.balances) w.self-inside-is in
          subst (λ (s : Shares). AreBalances s made) (sym shares)
          (joined-settled l.shares o.shares c.join_in.new.self l.balances o.balances made c.self.invariant
          c.other.invariant join (omega (arith, len, items))
          (omega (arith, len, items, w.if-len.false, c.len.ensures, c.len-2.ensures)) (omega (arith, len, items, few))
          (subst (λ (s : Shares). AreReadFrom s made) shares c.settle.ensures.read) c.settle.ensures.small)
    ]

pub returns-clause-ok : goal.returns-clause-ok
returns-clause-ok c =
    let told = c.in_ok-join_in.ensures.ok in
    elim c.if-len.branch [
      | then-len w ↦ rw (ap (λ (i : _). i.shares) w.self-inside-is, ← c.self.view_is, ← c.other.view_is) told
      | else-len w ↦ rw (ap (λ (i : _). i.shares) w.self-inside-is, ← c.self.view_is, ← c.other.view_is) told
    ]
