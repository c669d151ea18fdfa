use Rattle.std.proofs.Common.{ℕ, ℤ, List}
use Rattle.std.specs.Fmt.{signed_decimal}
use Rattle.replica_state.specs.States.{rights_of}
use Rattle.report_text.proofs.Walks.{text_of_next, told_from}
use Rattle.answers.specs.Objects.{node_member}
use Rattle.answers.proofs.reports.push_rights.Goals as goal

pub loop-node-preserved : goal.loop-node-preserved
loop-node-preserved g c =
    let rights = rights_of (g.R.Replica.state c.args.replica.now) c.args.name.now c.args.term in
    let cell : ℕ × ℤ → List ℕ = λ at. node_member at.0 (signed_decimal at.1) in
    told_from _ _ _ c.in_ok-push_rights_at.ensures c.loop-node.invariant
    (text_of_next cell (λ node. (node, rights node)) c.loop-node.node)
