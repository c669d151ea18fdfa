use Rattle.std.proofs.Common.{◌≡◌, ◌++◌, map, take}
use Rattle.stamp_register.specs.Keys.{key_value}
use Rattle.operations.specs.Operations.{Count, Shifts}
use Rattle.replica_state.specs.Stored.{reader_held}
use Rattle.delta_exchange.specs.News.{news_held, news_of}
use Rattle.delta_exchange.proofs.news.Told.push_grants.Given as goal

abbrev pub invariant-loop-term : goal.invariant-loop-term
invariant-loop-term g l = map news_of l.news.items ≡ map news_of l.initial.news.items ++
    news_held (reader_held g.S.Stored.held l.held) (map (λ c. Count
    (Shifts l.self.name.now (key_value l.self.key.now) c.0 c.1 c.1) c.2) (take l.term-index l.grants))
