use Rattle.std.proofs.Common.{◌≡◌, sym, ◌∙◌, true, false, arith}
use Rattle.std.proofs.lemmas.Grind.{common_steps}
use Rattle.peers.specs.Heard.{is_peer}
use Rattle.peers.proofs.Rows.{none_more, one_more}
use Rattle.peers.proofs.heard.Heard.peer_rows.Goals as goal
use Rattle.peers.proofs.heard.Heard.peer_rows.Goals.{then-is_peer+in_ok-push, else-is_peer}

pub loop-node-preserved : goal.loop-node-preserved
loop-node-preserved c = elim c.if-is_peer.branch [
  | then-is_peer+in_ok-push w ↦
      let is : is_peer c.args.cluster c.loop-node.node ≡ true = sym c.is_peer.ensures ∙ w.if-is_peer.true in
      let more = one_more c.args.cluster c.args.self.now.rows c.loop-node.node is in
      rw w.rows-is (grind (arith, common_steps, more))
  | else-is_peer w ↦
      let isnt : is_peer c.args.cluster c.loop-node.node ≡ false = sym c.is_peer.ensures ∙ w.if-is_peer.false in
      rw w.rows-is (c.loop-node.invariant ∙ sym (none_more c.args.cluster c.args.self.now.rows c.loop-node.node isnt))
]
