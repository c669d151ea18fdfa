use Rattle.std.proofs.Common.{ap, ◌∙◌, sym, Vec, arith}
use Rattle.std.specs.declared.alloc.Global.{Global}
use Rattle.std.proofs.lemmas.List.{append-nil}
use Rattle.node_calls.specs.declared.receipt.Receipt.{Receipt}
use Rattle.gossip.specs.declared.failures.Failed.{Failed}
use Rattle.gossip.specs.declared.failures.Rejected.{Rejected}
use Rattle.gossip.proofs.CarryLemmas.{on_err}
use Rattle.gossip.proofs.NewsLemmas.{breaks_from, breaks_now, looks_away, looks_from, looks_missed, looks_told, looks_unreached}
use Rattle.gossip.proofs.news_rounds.look_at.Goals as goal

pub returns-then-not-is_due-clause-looks : goal.returns-then-not-is_due-clause-looks
returns-then-not-is_due-clause-looks g c =
    rw c.news_for-news.ensures.same (looks_away c.args.pace c.rested.result c.news_for-news.result
    c.news_for-news.ensures.seen (sym c.is_due.ensures ∙ c.if-not-is_due.true) c.rested.ensures)

pub returns-in_err-tell_one-clause-breaks : goal.returns-in_err-tell_one-clause-breaks
returns-in_err-tell_one-clause-breaks g c =
    let done = c.in_err-tell_one.ensures in
    on_err _ (breaks_from c.reaches.ensures.same (breaks_now c.args.pace c.news_for-news.result c.news_for-news.ensures.seen
    (sym c.is_due.ensures ∙ c.if-not-is_due.false)
    (_, sym c.reaches.ensures.value ∙ c.if-not-reaches.false) (rw c.news_for-news.ensures.same at done.adds) done.stops
    done.tries))

pub returns-in-None-clause-looks : goal.returns-in-None-clause-looks
returns-in-None-clause-looks g c =
    let done = c.in_ok-tell_one.ensures in
    let why = rw c.in-None.is at done.why in
    looks_from c.reaches.ensures.same (looks_told c.args.pace c.told.result c.news_for-news.result
    c.news_for-news.ensures.seen
    (sym c.is_due.ensures ∙ c.if-not-is_due.false) (_, sym c.reaches.ensures.value ∙ c.if-not-reaches.false)
    c.told.ensures (rw c.news_for-news.ensures.same at done.adds) done.moves done.tried done.few
    (omega (arith, rw c.in-None.is at done.missed)) why.1 (why.2 ∙ append-nil _))

pub returns-in-Some-clause-looks : goal.returns-in-Some-clause-looks
returns-in-Some-clause-looks g c =
    let done = c.in_ok-tell_one.ensures in
    let why = rw c.in-Some.is at done.why in
    looks_from c.reaches.ensures.same (looks_missed c.args.pace c.missed-in-Some.result c.news_for-news.result _
    c.news_for-news.ensures.seen
    (sym c.is_due.ensures ∙ c.if-not-is_due.false) (_, sym c.reaches.ensures.value ∙ c.if-not-reaches.false)
    why.0 c.missed-in-Some.ensures (rw c.news_for-news.ensures.same at done.adds) done.moves done.tried done.few
    (omega (arith, rw c.in-Some.is at done.missed)) why.1 why.2)

pub returns-then-not-reaches-clause-looks : goal.returns-then-not-reaches-clause-looks
returns-then-not-reaches-clause-looks g c =
    let done = c.note_attempt.ensures in
    rw c.news_for-news.ensures.same (looks_unreached c.args.pace c.missed.result c.news_for-news.result
    c.news_for-news.ensures.seen (sym c.is_due.ensures ∙ c.if-not-is_due.false)
    (_, sym c.reaches.ensures.value ∙ c.if-not-reaches.true) c.reaches.ensures.same c.missed.ensures done.attempts
    (ap (λ (v : Vec Receipt Global). v.items) done.receipts) done.emitted done.delivered done.lost done.refused
    (ap (λ (v : Vec Failed Global). v.items) done.failed) (ap (λ (v : Vec Rejected Global). v.items) done.rejected)
    done.noted done.ended)
