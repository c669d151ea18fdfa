use Rattle.std.proofs.Common.{◌≡◌, map, vec_len, vec_capacity}
use Rattle.std.specs.List.{range_with_len}
use Rattle.gossip.specs.Mailboxes.{new_place}
use Rattle.gossip.proofs.mail.MailWire.all.Given as goal

abbrev pub invariant-loop-node : goal.invariant-loop-node
invariant-loop-node l = record {
  numbered : map (λ m. m.node) l.mailboxes.value.items ≡ range_with_len 0 l.nodes;
  made : l.wires.items ≡ map (new_place l.nodes) (range_with_len 0 l.node);
  len : vec_len l.wires ≡ l.node;
  room : vec_capacity l.wires ≡ l.nodes;
}
