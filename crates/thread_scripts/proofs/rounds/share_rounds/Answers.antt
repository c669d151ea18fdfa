use Rattle.std.proofs.Common.{◌≡◌, arith, rules, subst}
use Rattle.thread_scripts.specs.Gossips.{AreShared, no_round, next_round}
use Rattle.thread_scripts.proofs.rounds.share_rounds.Goals as goal

pub loop-round-init : goal.loop-round-init
loop-round-init g c = record {
  counted = rw c.new-receipts.ensures.items c.requires;
  given = rw c.new-receipts.ensures.items tt;
  shared = rw (c.new-receipts.ensures.items, c.new-sharing.ensures) no_round;
}

pub loop-round-preserved : goal.loop-round-preserved
loop-round-preserved g c =
    let was = c.loop-round.invariant in
    let step = c.in_ok-share_round.ensures in
    record {
      counted = step.counted;
      given = step.given;
      shared = rw step.round.2 (next_round step.round.0 step.round.1 was.shared step.round.3 step.round.4);
    }

pub returns-clause-shared : goal.returns-clause-shared
returns-clause-shared g c =
    let all : c.loop-round._round ≡ c.args.count = omega (arith, c.loop-round-test.false, c.loop-round.auto._round-end) in (
      c.loop-round.sharing,
      subst (λ n. AreShared g.L.Label.config g.L.Label.seed c.args.wire.now.mail n c.loop-round.sharing
          c.loop-round.receipts.items c.loop-round.wire.mail) all c.loop-round.invariant.shared,
    )
