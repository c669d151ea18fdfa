use Rattle.std.proofs.Common.{◌+◌, ap, ◌∙◌, refl}
use Rattle.gossip.specs.News.{Says}
use Rattle.peer_rounds.specs.Sharing as sharing
use Rattle.peer_rounds.proofs.SharingRounds.{few_without}
use Rattle.peer_rounds.proofs.rounds.make_rounds.Goals as goal

pub loop-number-init : goal.loop-number-init
loop-number-init g c =
    let none = c.none-rounds.ensures in
    rw (c.new-sharing.ensures, none.log, none.loss) (record {
      made = sharing.none;
      count = none.made;
      early = none.early;
      loss = tt;
      long = refl;
    })

pub returns-in-Some-clause-few : goal.returns-in-Some-clause-few
returns-in-Some-clause-few g c =
    let was = c.loop-number.invariant in
    rw was.count (few_without g.L.Label.config g.L.Label.seed g.L.Label.keeps g.L.Ledger.parts (Says g.W.Reach.reached)
    c.args.telling.now.rights c.args.seat.now _ _ c.loop-number.number c.loop-number.seat _ _ _ _ _ was.made)

pub loop-number-preserved : goal.loop-number-preserved
loop-number-preserved g c =
    let was = c.loop-number.invariant in
    let more = c.add.ensures in
    record {
      made = rw (more.log, more.lost, c.take_losses.ensures.same) (sharing.more was.made c.make_round-round.ensures.round);
      count = more.made ∙ ap (λ n. n + 1) was.count;
      early = more.early ∙ was.early;
      loss = more.loss _ was.loss c.make_round-round.ensures.loss;
      long = c.make_round-round.auto.paces ∙ was.long;
    }

pub returns-clause-few : goal.returns-clause-few
returns-clause-few g c =
    let was = c.loop-number.invariant in
    rw was.count (few_without g.L.Label.config g.L.Label.seed g.L.Label.keeps g.L.Ledger.parts (Says g.W.Reach.reached)
    c.args.telling.now.rights c.args.seat.now _ _ c.loop-number.number c.loop-number.seat _ _ _ _ _ was.made)
