use Rattle.std.proofs.Common.{ℕ, List, decimal}
use Rattle.report_text.proofs.Walks.{text_of_next, told_from}
use Rattle.answers.specs.Objects.{node_member}
use Rattle.answers.proofs.reports.push_hits.Goals as goal

pub loop-node-preserved : goal.loop-node-preserved
loop-node-preserved g c =
    let hits = (g.R.Replica.state c.args.replica.now).hits c.args.name.now in
    let cell : ℕ × ℕ → List ℕ = λ at. node_member at.0 (decimal at.1) in
    told_from _ _ _ c.in_ok-push_hits_at.ensures c.loop-node.invariant
    (text_of_next cell (λ node. (node, hits node)) c.loop-node.node)
