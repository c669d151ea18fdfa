use Rattle.std.proofs.Common.{◌≡◌, map, vec_len, arith, ap, sym, ◌∙◌}
use Rattle.std.specs.Arc.{arc_value}
use Rattle.std.specs.List.{range_with_len}
use Rattle.gossip.proofs.MailLemmas.{all_are, one_wire_more}
use Rattle.gossip.proofs.mail.MailWire.all.Goals as goal

pub invariant_of-push_reserved : goal.invariant_of-push_reserved
invariant_of-push_reserved c =
    let was = c.loop-node.invariant in
    let same = c.in_ok-mailboxes-2.ensures in
    let all : vec_len (arc_value c.in_ok-mailboxes-2.mailboxes) ≡ c.args.nodes =
    ap vec_len same ∙ omega (arith, all_are _ _ was.numbered) in (
      omega (arith, all, c.loop-node-test.true),
      ap (λ v. map (λ m. m.node) v.items) same ∙ was.numbered ∙ ap (range_with_len 0) (sym all),
    )

pub loop-node-preserved : goal.loop-node-preserved
loop-node-preserved c =
    let was = c.loop-node.invariant in
    let same = c.in_ok-mailboxes-2.ensures in
    let all : vec_len (arc_value c.in_ok-mailboxes-2.mailboxes) ≡ c.args.nodes =
    ap vec_len same ∙ omega (arith, all_are _ _ was.numbered) in
    record {
      numbered = was.numbered;
      made = one_wire_more _ _ _ _ _ _ _ c.push_reserved.ensures.items was.made all c.new-in-loop-node.ensures
          c.new-in-loop-node-2.ensures;
      len = omega arith;
      room = omega arith;
    }
