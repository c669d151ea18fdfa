use Rattle.std.proofs.Common.{ℕ, ℤ, [], ◌∷◌, ◌++◌, map, ap, ◌∙◌}
use Rattle.std.specs.Fmt.{signed_decimal}
use Rattle.serde_json.specs.Data.{Data, string}
use Rattle.serde_json.specs.View.{view}
use Rattle.replica_state.specs.States.{rights_of}
use Rattle.report_text.proofs.Walks.{data_of_next, told}
use Rattle.report_text.proofs.json_report.rights_value.Goals as goal

pub loop-node-preserved : goal.loop-node-preserved
loop-node-preserved g c =
    let rights = rights_of (g.R.Replica.state c.args.replica.now) c.args.name.now c.args.term in
    let cell : ℕ × ℤ → Data = λ at. string (signed_decimal at.1) in
    told _ (c.in_ok-push_value.ensures ∙ ap (λ d. map view c.loop-node.values.items ++ d ∷ [])
    c.in_ok-rights_at.ensures) c.loop-node.invariant
    (data_of_next cell (λ node. (node, rights node)) c.loop-node.node)
