use Rattle.std.proofs.Common.{◌≡◌, ◌++◌, map, take}
use Rattle.operations.specs.Operations.{Count, Hits}
use Rattle.replica_state.specs.Stored.{reader_held}
use Rattle.delta_exchange.specs.News.{news_held, news_of}
use Rattle.delta_exchange.proofs.news.Told.push_hits.Given as goal

abbrev pub invariant-loop-node : goal.invariant-loop-node
invariant-loop-node g l = map news_of l.news.items ≡ map news_of l.initial.news.items ++
    news_held (reader_held g.S.Stored.held l.held) (map (λ c. Count (Hits l.self.name.now c.0) c.1)
    (take l.node-index l.hits))
