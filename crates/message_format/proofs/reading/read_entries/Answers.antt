use Rattle.std.proofs.Common.{◌≡◌, map, length, ◌-◌}
use Rattle.std.specs.List.{slice_get}
use Rattle.std.specs.Option.{option_copied}
use Rattle.std.proofs.lemmas.Result.{err_from_is_err_and}
use Rattle.std.proofs.lemmas.List.{map_push}
use Rattle.message_format.specs.Messages.{entry_value}
use Rattle.message_format.specs.Reading.{entry_at, entries_at}
use Rattle.message_format.proofs.Loop.{last_of-map, goes_on, ends, is_done}
use Rattle.message_format.proofs.reading.read_entries.Goals as goal

pub returns-in_err-entry : goal.returns-in_err-entry
returns-in_err-entry c =
    let from = c.from_residual-in_err-entry in
    let p = err_from_is_err_and from.result from.ensures.1 in
    let front = map entry_value c.loop.entries.items in
    let found : option_copied c.last.result ≡ slice_get c.loop.entries.items (length c.loop.entries.items - 1) = cc in
    let last = last_of-map entry_value c.loop.entries.items c.last.result found in
    let refused = rw last at c.in_err-entry.ensures in
    rw (p.1, p.2) (ends (entry_at c.args.whole.len c.args.whole.nodes c.args.form) _ front c.in_ok-count.count
    c.loop.counter c.loop.rest.now (entries_at c.args.whole.len c.args.whole.nodes c.args.form c.args.bytes.now)
    c.loop-test.true refused c.loop.invariant)

pub loop-preserved : goal.loop-preserved
loop-preserved c =
    let front = map entry_value c.loop.entries.items in
    let found : option_copied c.last.result ≡ slice_get c.loop.entries.items (length c.loop.entries.items - 1) = cc in
    let last = last_of-map entry_value c.loop.entries.items c.last.result found in
    let read = rw last at c.in_ok-entry.ensures in
    rw (c.in_ok-push.ensures.items, map_push entry_value c.loop.entries.items c.in_ok-entry.entry)
    (goes_on (entry_at c.args.whole.len c.args.whole.nodes c.args.form) front c.in_ok-count.count c.loop.counter
    c.loop.rest.now (entry_value c.in_ok-entry.entry) c.in_ok-entry.after.now
    (entries_at c.args.whole.len c.args.whole.nodes c.args.form c.args.bytes.now) c.loop-test.true read
    c.loop.invariant)

pub returns : goal.returns
returns c =
    is_done (entry_at c.args.whole.len c.args.whole.nodes c.args.form) (map entry_value c.loop.entries.items)
    c.in_ok-count.count c.loop.counter c.loop.rest.now (entries_at c.args.whole.len c.args.whole.nodes c.args.form
    c.args.bytes.now) c.loop-test.false c.loop.invariant
