use Rattle.std.proofs.Common.{◌≡◌, ℕ, ◌+◌, take}
use Rattle.audit.specs.Receipts.{HaveSamePlaces, given_count, times_seen}
use Rattle.audit.proofs.receipts.note_list.Given as goal

abbrev pub invariant-loop-receipt : goal.invariant-loop-receipt
invariant-loop-receipt l =
    ((n i : ℕ) → times_seen l.seen n i ≡ times_seen l.fn.seen n i + given_count n i
    (take l.receipt-index l.receipts)) × HaveSamePlaces l.fn.seen l.seen
