use Rattle.std.proofs.Common.{◌≡◌}
use Rattle.peers.proofs.Rows.{below}
use Rattle.peers.proofs.heard.Heard.peer_rows.Given as goal

abbrev pub invariant-loop-node : goal.invariant-loop-node
invariant-loop-node l = l.rows.items ≡ below l.fn.cluster l.fn.self.rows l.node
