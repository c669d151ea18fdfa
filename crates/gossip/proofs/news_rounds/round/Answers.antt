use Rattle.gossip.proofs.CarryLemmas.{on_err, with_err, with_ok}
use Rattle.gossip.proofs.NewsLemmas.{news_broken, news_round, news_unheard, told_by_looks}
use Rattle.gossip.proofs.news_rounds.round.Goals as goal

pub returns-in_err-look_at_all-clause-broken : goal.returns-in_err-look_at_all-clause-broken
returns-in_err-look_at_all-clause-broken g c =
    on_err _ (news_broken c.requires.empty c.in_err-look_at_all.ensures.breaks)

pub returns-clause-told : goal.returns-clause-told
returns-clause-told g c =
    told_by_looks c.requires.empty c.in_ok-look_at_all.ensures.looks c.hear.ensures.adds

pub returns-clause-round : goal.returns-clause-round
returns-clause-round g c =
    let heard = c.hear.ensures in
    with_ok c.hear.result
    (λ moves. news_round c.requires.empty c.in_ok-look_at_all.ensures.looks heard.adds heard.tried moves
    heard.attempts.0 heard.attempts.1) heard.moves

pub returns-clause-broken : goal.returns-clause-broken
returns-clause-broken g c =
    let heard = c.hear.ensures in
    with_err c.hear.result
    (λ stops. news_unheard c.requires.empty c.in_ok-look_at_all.ensures.looks heard.adds stops
    heard.attempts.0) heard.stops
