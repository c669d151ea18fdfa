use Rattle.std.proofs.Common.{map, take}
use Rattle.command_line.specs.Peers.{AreNamed}
use Rattle.command_line.proofs.peers.read_peers.Given as goal

abbrev pub invariant-loop-word : goal.invariant-loop-word
invariant-loop-word l = AreNamed l.fn.nodes (map (λ w. w.now) (take l.word-index l.fn.words)) l.peers.items
