use Rattle.std.proofs.Common.{◌≡◌, ◌++◌, map, take}
use Rattle.peer_rounds.specs.Taken.{rejected_as, taken_as}
use Rattle.peer_rounds.proofs.taken.note_rejected.Given as goal

abbrev pub invariant-loop-message : goal.invariant-loop-message
invariant-loop-message g l =
    map taken_as l.noted.items ≡ map taken_as l.initial.noted.items ++ map rejected_as (take l.message-index l.rejected)
