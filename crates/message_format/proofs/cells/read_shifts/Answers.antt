use Rattle.std.proofs.Common.{◌≡◌}
use Rattle.std.proofs.lemmas.Result.{err_from_is_err_and}
use Rattle.stamp_register.specs.Keys.{key_value}
use Rattle.message_format.specs.Reading.{shift_at, shifts_at}
use Rattle.message_format.proofs.Loop.{last_of, goes_on, ends, is_done}
use Rattle.message_format.proofs.cells.read_shifts.Goals as goal

pub returns-in_err-shift : goal.returns-in_err-shift
returns-in_err-shift c =
    let from = c.from_residual-in_err-shift in
    let p = err_from_is_err_and from.result from.ensures.1 in
    let last : c.copied.result ≡ last_of c.loop.shifts.items = cc in
    let refused = rw last at c.in_err-shift.ensures in
    rw (p.1, p.2) (ends (shift_at c.args.whole.len c.args.whole.nodes (key_value c.args.key.now)) _ c.loop.shifts.items
    c.in_ok-count.count c.loop.counter c.loop.rest.now (shifts_at c.args.whole.len c.args.whole.nodes
    (key_value c.args.key.now) c.args.bytes.now) c.loop-test.true refused c.loop.invariant)

pub loop-preserved : goal.loop-preserved
loop-preserved c =
    let last : c.copied.result ≡ last_of c.loop.shifts.items = cc in
    let read = rw last at c.in_ok-shift.ensures in
    rw c.in_ok-push.ensures.items (goes_on (shift_at c.args.whole.len c.args.whole.nodes (key_value c.args.key.now))
    c.loop.shifts.items c.in_ok-count.count c.loop.counter c.loop.rest.now c.in_ok-shift.shift
    c.in_ok-shift.after.now (shifts_at c.args.whole.len c.args.whole.nodes (key_value c.args.key.now)
    c.args.bytes.now) c.loop-test.true read c.loop.invariant)

pub returns : goal.returns
returns c = is_done (shift_at c.args.whole.len c.args.whole.nodes (key_value c.args.key.now)) c.loop.shifts.items
    c.in_ok-count.count c.loop.counter c.loop.rest.now (shifts_at c.args.whole.len c.args.whole.nodes
    (key_value c.args.key.now) c.args.bytes.now) c.loop-test.false c.loop.invariant
