use Rattle.std.proofs.Common.{List, map, sym, subst, ap, ◌∙◌}
use Rattle.message_format.specs.Messages.{message_value, operations_in}
use Rattle.delta_exchange.specs.declared.news.Told.{Told}
use Rattle.delta_exchange.specs.News.{operation_of, news_of, BringsNews}
use Rattle.delta_exchange.specs.Versions.{value_of}
use Rattle.delta_exchange.proofs.LearnsLemmas.{told_received}
use Rattle.delta_exchange.proofs.versioned.Versioned.receive_replica.Goals as goal

pub learn_message-requires-clause-brings : goal.learn_message-requires-clause-brings
unfolding value_of
learn_message-requires-clause-brings g c =
    let v = g.R.Replica.state c.args.self.now.replica in
    subst (λ (ts : List Told). BringsNews v (g.R.Replica.state c.args.received) (map operation_of ts))
    (sym c.deref.ensures.value)
    (told_received v (operations_in (message_value c.args.message.now)) c.in_ok-news.news.items c.in_ok-news.ensures
    (g.R.Replica.state c.args.received) c.requires.received)

pub learn_message-requires-clause-news : goal.learn_message-requires-clause-news
unfolding value_of
learn_message-requires-clause-news g c = ap (map news_of) c.deref.ensures.value ∙ c.in_ok-news.ensures
