use Rattle.std.proofs.Common.{map}
use Rattle.std.proofs.lemmas.Result.{err_from_is_err_and}
use Rattle.std.proofs.lemmas.List.{map_push}
use Rattle.actions.specs.Value.{term_value}
use Rattle.actions.specs.Reading.{terms_at}
use Rattle.actions.proofs.LoopLemmas.{texts, ends_at, goes_on_at, is_done_at}
use Rattle.actions.proofs.reading.parse_terms.Goals as goal

pub returns-in_err-parse_term : goal.returns-in_err-parse_term
returns-in_err-parse_term c =
    let front = map term_value c.loop-index.terms.items in
    let pieces = c.args.pieces.now in
    let e = c.in_err-parse_term.field-0.0 in
    let p = err_from_is_err_and c.from_residual.result c.from_residual.ensures.1 in
    let refused = rw c.trim_spaces.ensures at c.in_err-parse_term.ensures in
    rw (p.1, p.2) (ends_at e front pieces c.loop-index.index _ (terms_at 0 (texts pieces)) c.loop-index-test.true
    refused c.loop-index.invariant)

pub loop-index-preserved : goal.loop-index-preserved
loop-index-preserved c =
    let front = map term_value c.loop-index.terms.items in
    let pieces = c.args.pieces.now in
    let term = c.in_ok-parse_term.field-0 in
    let read = rw c.trim_spaces.ensures at c.in_ok-parse_term.ensures in
    rw (c.in_ok-push.ensures.items, map_push term_value c.loop-index.terms.items term)
    (goes_on_at front pieces c.loop-index.index _ (term_value term) (terms_at 0 (texts pieces)) c.loop-index-test.true
    read c.loop-index.invariant)

pub returns : goal.returns
returns c =
    let front = map term_value c.loop-index.terms.items in
    let pieces = c.args.pieces.now in
    is_done_at front pieces c.loop-index.index (terms_at 0 (texts pieces)) c.loop-index-test.false
    c.loop-index.invariant
