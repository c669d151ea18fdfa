use Rattle.std.proofs.Common.{◌≡◌, map, take}
use Rattle.peer_rounds.specs.Rounds.{peer_of}
use Rattle.peer_rounds.proofs.targets.peers_of.Given as goal

abbrev pub invariant-loop-peer : goal.invariant-loop-peer
invariant-loop-peer l = l.peers.items ≡ map peer_of (take l.peer-index l.fn.named)
