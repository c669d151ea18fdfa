use Rattle.std.proofs.Common.{◌≡◌, map}
use Rattle.std.specs.Prelude.{decimal}
use Rattle.serde_json.specs.Data.{string}
use Rattle.serde_json.specs.View.{view}
use Rattle.report_text.specs.Report.{by_node}
use Rattle.report_text.proofs.node_json.spent_value.Given as goal

abbrev pub invariant-loop-node : goal.invariant-loop-node
invariant-loop-node g l = map view l.values.items ≡ map (λ at. string (decimal at.1))
    (by_node l.node ((g.R.Replica.state l.replica).execs l.name l.term))
