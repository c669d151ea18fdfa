use Rattle.std.proofs.Common.{[], refl}
use Rattle.delta_exchange.specs.Versions.{value_of}
use Rattle.delta_exchange.proofs.LearnsLemmas.{news_received, news_well_formed}
use Rattle.delta_exchange.proofs.versioned.Versioned.learn_news.Goals as goal

pub learned-requires : goal.learned-requires
unfolding value_of
learned-requires g c =
    let told = c.requires.news in
    news_well_formed (g.R.Replica.state c.args.self.now.replica) told.0 c.args.news.now told.2 told.1

pub learn-requires-clause-brings : goal.learn-requires-clause-brings
unfolding value_of
learn-requires-clause-brings g c =
    let told = c.requires.news in
    let received = g.R.Replica.state c.in_ok-received.received in
    news_received (g.R.Replica.state c.args.self.now.replica) told.0 c.args.news.now told.2 received
    (c.in_ok-received.ensures [] refl)
