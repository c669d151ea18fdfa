use Rattle.std.proofs.Common.{◌≡◌, map, vec_len, vec_capacity}
use Rattle.std.specs.List.{range_with_len}
use Rattle.gossip.proofs.mail.mailboxes_of.Given as goal

abbrev pub invariant-loop-node : goal.invariant-loop-node
invariant-loop-node l = record {
  made : map (λ m. m.node) l.mailboxes.items ≡ range_with_len 0 l.node;
  len : vec_len l.mailboxes ≡ l.node;
  room : vec_capacity l.mailboxes ≡ l.nodes;
}
