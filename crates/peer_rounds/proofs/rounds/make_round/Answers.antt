use Rattle.std.proofs.Common.{ap, sym, ◌∙◌, is_some, arith}
use Rattle.gossip.specs.News.{Says}
use Rattle.peer_rounds.specs.Losses.{first_loss}
use Rattle.peer_rounds.specs.Rounds.{most_peers}
use Rattle.peer_rounds.proofs.LossLemmas.{met_is}
use Rattle.peer_rounds.proofs.RoundLemmas.{calls_of_a_round}
use Rattle.peer_rounds.proofs.rounds.make_round.Goals as goal

pub returns-clause-round : goal.returns-clause-round
returns-clause-round g c =
    let config = g.L.Label.config in
    let first = c.share_first in
    let news = c.gossip_news-report in
    let few = calls_of_a_round config g.L.Label.seed (Says g.W.Reach.reached) first.new.seat.calls first.new.seat
    news.new.seat (most_peers config) (g.W.Wire.traffic c.keep_calls.new.self) (g.W.Wire.traffic news.new.wire)
    c.greet-asked.new.paces news.new.paces news.result news.ensures.told news.ensures.round news.ensures.broken
    news.ensures.few (omega (arith, c.greet-asked.auto.paces, c.requires.peers)) in
    record {
      greeted = c.greet-asked.new.paces;
      shared = first.new.seat;
      report = news.result;
      asked = c.greet-asked.ensures;
      rights = c.rights_now-rights.ensures.rights;
      first = first.ensures;
      told = news.ensures.told;
      done = rw (c.keep_calls.ensures.same, c.rights_now-rights.ensures.same, c.ask_awaited.ensures) at news.ensures.round;
      broken = rw (c.keep_calls.ensures.same, c.rights_now-rights.ensures.same, c.ask_awaited.ensures) at news.ensures.broken;
      few = few;
      noted = c.note_taken-noted.ensures;
      attempts = c.note_attempts-attempts.ensures;
      known = met_is _ _ _ c.meet-loss.ensures ∙ ap (λ l. is_some (first_loss l)) c.deref.ensures.value;
    }
