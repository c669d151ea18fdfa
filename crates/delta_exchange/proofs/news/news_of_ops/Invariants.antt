use Rattle.std.proofs.Common.{◌≡◌, map, take}
use Rattle.operations.specs.Operations.{operation}
use Rattle.delta_exchange.specs.News.{news_in, news_of}
use Rattle.delta_exchange.proofs.news.news_of_ops.Given as goal

abbrev pub invariant-loop-op : goal.invariant-loop-op
invariant-loop-op g l = map news_of l.news.items ≡ news_in (g.R.Replica.state l.replica)
    (map operation (take l.op-index l.ops))
