use Rattle.std.proofs.Common.{arith}
use Rattle.gossip.proofs.MailLemmas.{one_more}
use Rattle.gossip.proofs.mail.mailboxes_of.Goals as goal

pub loop-node-preserved : goal.loop-node-preserved
loop-node-preserved c =
    let was = c.loop-node.invariant in
    record {
      made = one_more _ _ _ _ c.push_reserved.ensures.items c.in_ok-new.ensures was.made;
      len = omega arith;
      room = omega arith;
    }
