use Rattle.std.proofs.Common.{map, ◌∙◌, ap}
use Rattle.operations.specs.Operations.{operation}
use Rattle.delta_exchange.specs.News.{news_of}
use Rattle.delta_exchange.specs.Versions.{value_of}
use Rattle.delta_exchange.proofs.versioned.Versioned.issue.Goals as goal

pub learn_news-requires-clause-news : goal.learn_news-requires-clause-news
unfolding value_of
learn_news-requires-clause-news g c =
    (map operation c.args.ops.now, c.requires.formed, ap (map news_of) c.deref.ensures.value ∙ c.in_ok-news.ensures)
