use Rattle.std.proofs.Common.{◌≡◌, ℕ, take}
use Rattle.audit.specs.Receipts.{HasPlaces, given_all, times_seen}
use Rattle.audit.proofs.receipts.note_all.Given as goal

abbrev pub invariant-loop-list : goal.invariant-loop-list
invariant-loop-list l =
    ((n i : ℕ) → times_seen l.seen n i ≡ given_all n i (take l.list-index l.lists)) × HasPlaces l.seen l.traces
