use Rattle.std.proofs.Common.{ℕ, map}
use Rattle.operations.specs.Operations.{Count, Hits}
use Rattle.replica_state.specs.Stored.{reader_held}
use Rattle.delta_exchange.specs.News.{news_of}
use Rattle.delta_exchange.proofs.NewsLemmas.{held_next}
use Rattle.delta_exchange.proofs.news.Told.push_hits.Goals as goal

pub loop-node-preserved : goal.loop-node-preserved
loop-node-preserved g c =
    let name = c.args.self.name.now in
    held_next (λ (x : ℕ × ℕ). Count (Hits name x.0) x.1) c.args.hits.now
    (reader_held g.S.Stored.held c.args.held) (map news_of c.args.news.now.items)
    (map news_of c.loop-node.news.items) (map news_of c.push_count.new.news.items) c.loop-node.node-index (0, 0)
    c.loop-node-test.true c.loop-node.invariant (rw c.times.ensures at c.in_ok-push_count.ensures)
