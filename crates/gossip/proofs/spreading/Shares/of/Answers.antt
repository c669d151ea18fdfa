use Rattle.std.proofs.Common.{arith}
use Rattle.std.proofs.lemmas.List.FromFn.{fill_by_all}
use Rattle.gossip.specs.Spreads.{share_of, shares_of}
use Rattle.gossip.proofs.spreading.Shares.of.Goals as goal

pub returns-clause-amounts : goal.returns-clause-amounts
unfolding shares_of
returns-clause-amounts c =
    let done = c.loop-term.invariant in
    fill_by_all (share_of c.args.core.now c.args.name.now) _ 16 0 done.all
    (λ k lt. done.done k (omega (arith, lt, c.loop-term-test.false)))
