use Rattle.std.proofs.Common.{◌+◌, ◌≤◌, All, List, arith, subst, sym}
use Rattle.node_calls.specs.declared.receipt.Receipt.{Receipt}
use Rattle.audit.specs.Receipts.{HasPlace, IsReceiptOf, given_count, times_seen}
use Rattle.audit.proofs.Seen.{given_more, place_there}
use Rattle.audit.proofs.receipts.note_all.Goals as goal

pub note_list-requires : goal.note_list-requires
note_list-requires c =
    let list = c.list-item.result in
    subst (λ (rs : List Receipt). All (HasPlace c.loop-list.seen) rs) (sym c.as_slice.ensures.value)
    (place_there c.args.traces.now c.loop-list.seen list.items c.loop-list.invariant.1
    (subst (λ d. All (IsReceiptOf c.args.traces.now) d.items) (sym c.list-item.is)
    (c.requires c.loop-list.list-index list c.loop-list-test.true)))

pub returns-then-not-note_list-clause-twice : goal.returns-then-not-note_list-clause-twice
returns-then-not-note_list-clause-twice c =
    let found = c.if-not-note_list.ensures.twice in
    let counted = c.loop-list.invariant.0 found.0 found.1 in
    let more = given_more found.0 found.1 c.args.lists.now c.loop-list.list-index c.list-item.result
    c.loop-list-test.true c.list-item.is in
    let twice = subst (λ (rs : List Receipt). 2 ≤ times_seen c.loop-list.seen found.0 found.1 + given_count found.0 found.1 rs)
    c.as_slice.ensures.value found.2 in
    (found.0, found.1, omega (arith, twice, counted, more))
