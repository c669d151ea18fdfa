use Rattle.std.proofs.Common.{◌≡◌}
use Rattle.std.proofs.lemmas.Result.{err_from_is_err_and}
use Rattle.message_format.specs.Reading.{hit_at, hits_at}
use Rattle.message_format.proofs.Loop.{last_of, goes_on, ends, is_done}
use Rattle.message_format.proofs.cells.read_hits.Goals as goal

pub returns-in_err-hit : goal.returns-in_err-hit
returns-in_err-hit c =
    let from = c.from_residual-in_err-hit in
    let p = err_from_is_err_and from.result from.ensures.1 in
    let last : c.copied.result ≡ last_of c.loop.hits.items = cc in
    let refused = rw last at c.in_err-hit.ensures in
    rw (p.1, p.2) (ends (hit_at c.args.whole.len c.args.whole.nodes) _ c.loop.hits.items c.in_ok-count.count
    c.loop.counter c.loop.rest.now (hits_at c.args.whole.len c.args.whole.nodes c.args.bytes.now) c.loop-test.true
    refused c.loop.invariant)

pub loop-preserved : goal.loop-preserved
loop-preserved c =
    let last : c.copied.result ≡ last_of c.loop.hits.items = cc in
    let read = rw last at c.in_ok-hit.ensures in
    rw c.in_ok-push.ensures.items (goes_on (hit_at c.args.whole.len c.args.whole.nodes) c.loop.hits.items
    c.in_ok-count.count c.loop.counter c.loop.rest.now c.in_ok-hit.hit c.in_ok-hit.after.now
    (hits_at c.args.whole.len c.args.whole.nodes c.args.bytes.now) c.loop-test.true read c.loop.invariant)

pub returns : goal.returns
returns c = is_done (hit_at c.args.whole.len c.args.whole.nodes) c.loop.hits.items c.in_ok-count.count c.loop.counter
    c.loop.rest.now (hits_at c.args.whole.len c.args.whole.nodes c.args.bytes.now) c.loop-test.false c.loop.invariant
