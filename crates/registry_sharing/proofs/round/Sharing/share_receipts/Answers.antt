use Rattle.registry_sharing.proofs.Receipted.{given_in, round_of}
use Rattle.registry_sharing.proofs.round.Sharing.share_receipts.Goals as goal

pub returns-clause-round : goal.returns-clause-round
returns-clause-round g c =
    round_of g.L.Label.config g.L.Label.seed g.L.Label.keeps g.L.Ledger.parts c.args.seat.now c.make_batch.new.seat
    c.args.self.now c.make_batch.new.batch c.make_batch.result c.make_batch.ensures.batch c.make_batch.ensures.given

pub returns-clause-given : goal.returns-clause-given
returns-clause-given g c =
    given_in g.L.Label.config g.L.Label.seed g.L.Label.keeps g.L.Ledger.parts c.args.seat.now c.make_batch.new.seat
    c.args.self.now c.make_batch.new.batch c.make_batch.result (returns-clause-round g c)
