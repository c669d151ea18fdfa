use Rattle.std.proofs.Common.{◌≡◌, ◌++◌, map, take}
use Rattle.peer_rounds.specs.Taken.{accepted_in, taken_as}
use Rattle.peer_rounds.proofs.taken.note_accepted.Given as goal

abbrev pub invariant-loop-receipt : goal.invariant-loop-receipt
invariant-loop-receipt g l =
    map taken_as l.noted.items ≡ map taken_as l.initial.noted.items ++ accepted_in (take l.receipt-index l.receipts)
