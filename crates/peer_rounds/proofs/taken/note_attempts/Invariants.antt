use Rattle.std.proofs.Common.{◌≡◌, flat_map}
use Rattle.std.specs.List.{range_with_len}
use Rattle.gossip.specs.Attempts.{attempt_at}
use Rattle.peer_rounds.specs.Taken.{attempted}
use Rattle.peer_rounds.proofs.taken.note_attempts.Given as goal

abbrev pub invariant-loop-node : goal.invariant-loop-node
invariant-loop-node g l =
    l.noted.items ≡ flat_map (λ n. attempted n (attempt_at l.report.attempts n)) (range_with_len 0 l.node)
