use Rattle.std.proofs.lemmas.Result.{err_from_is_err_and}
use Rattle.actions.specs.SettingReading.{entries_at}
use Rattle.actions.proofs.EntryLemmas.{texts, ends_at, goes_on_at, is_done_at}
use Rattle.actions.proofs.setting.parse_entries.Goals as goal

pub returns-in_err-parse_entry : goal.returns-in_err-parse_entry
returns-in_err-parse_entry c =
    let front = c.loop-index.points.items in
    let entries = c.args.entries.now in
    let e = c.in_err-parse_entry.field-0.0 in
    let p = err_from_is_err_and c.from_residual.result c.from_residual.ensures.1 in
    rw (p.1, p.2)
    (ends_at e front entries c.loop-index.index _ (entries_at 0 (texts entries))
    c.loop-index-test.true c.in_err-parse_entry.ensures c.loop-index.invariant)

pub loop-index-preserved : goal.loop-index-preserved
loop-index-preserved c =
    let front = c.loop-index.points.items in
    let entries = c.args.entries.now in
    rw c.in_ok-push.ensures.items
    (goes_on_at front entries c.loop-index.index _ c.in_ok-parse_entry.field-0 (entries_at 0 (texts entries))
    c.loop-index-test.true c.in_ok-parse_entry.ensures c.loop-index.invariant)

pub returns : goal.returns
returns c =
    is_done_at c.loop-index.points.items c.args.entries.now c.loop-index.index
    (entries_at 0 (texts c.args.entries.now)) c.loop-index-test.false c.loop-index.invariant
