use Rattle.std.proofs.Common.{ℕ, [], ◌∷◌, ◌++◌, map, ap, ◌∙◌, decimal}
use Rattle.serde_json.specs.Data.{Data, string}
use Rattle.serde_json.specs.View.{view}
use Rattle.replica_state.specs.States.{granted_in}
use Rattle.report_text.proofs.Walks.{data_of_next, told}
use Rattle.report_text.proofs.node_json.granted_value.Goals as goal

pub loop-node-preserved : goal.loop-node-preserved
loop-node-preserved g c =
    let granted = granted_in (g.R.Replica.state c.args.replica.now) c.args.name.now c.args.term in
    let cell : ℕ × ℕ → Data = λ at. string (decimal at.1) in
    told _ (c.in_ok-push_value.ensures ∙ ap (λ d. map view c.loop-node.values.items ++ d ∷ []) c.in_ok-granted_at.ensures)
    c.loop-node.invariant
    (data_of_next cell (λ node. (node, granted node)) c.loop-node.node)
