use Rattle.std.proofs.Common.{ℕ, map}
use Rattle.stamp_register.specs.Keys.{key_value}
use Rattle.operations.specs.Operations.{Count, Shifts}
use Rattle.replica_state.specs.Stored.{reader_held}
use Rattle.delta_exchange.specs.News.{news_of}
use Rattle.delta_exchange.proofs.NewsLemmas.{held_next}
use Rattle.delta_exchange.proofs.news.Told.push_shifts.Goals as goal

pub loop-term-preserved : goal.loop-term-preserved
loop-term-preserved g c =
    let name = c.args.self.name.now in
    let key = key_value c.args.self.key.now in
    held_next (λ (x : ℕ × ℕ × ℕ × ℕ). Count (Shifts name key x.0 x.1 x.2) x.3) c.args.shifts.now
    (reader_held g.S.Stored.held c.args.held) (map news_of c.args.news.now.items)
    (map news_of c.loop-term.news.items) (map news_of c.push_count.new.news.items) c.loop-term.term-index (0, 0, 0, 0)
    c.loop-term-test.true c.loop-term.invariant (rw c.times.ensures at c.in_ok-push_count.ensures)
