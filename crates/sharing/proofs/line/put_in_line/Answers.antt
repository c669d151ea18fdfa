use Rattle.std.proofs.Common.{ap, arith, subst, sym, ◌∙◌}
use Rattle.std.specs.Prelude.{get_or, slice_index, take}
use Rattle.std.specs.List.Sorted.{IsNonDecreasingBy}
use Rattle.sharing.specs.Shares.{placed}
use Rattle.sharing.proofs.Due.{line_in_order}
use Rattle.sharing.proofs.Lines.{line_next}
use Rattle.sharing.proofs.line.put_in_line.Goals as goal

pub place-requires : goal.place-requires
place-requires c =
    let e = slice_index c.args.executions.now in
    subst (IsNonDecreasingBy e) (sym c.loop-node.invariant)
    (line_in_order e (take c.loop-node.node-index c.args.nodes.now))

pub loop-node-preserved : goal.loop-node-preserved
loop-node-preserved c =
    let e = slice_index c.args.executions.now in
    let nodes = c.args.nodes.now in
    let index = c.loop-node.node-index in
    c.in_ok-place.ensures ∙ ap (λ line. placed e line (get_or nodes index 0)) c.loop-node.invariant
    ∙ sym (line_next e nodes index (omega (arith, c.loop-node-test.true)))
