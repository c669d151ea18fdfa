use Rattle.std.proofs.Common.{◌≡◌, map}
use Rattle.std.specs.Fmt.{signed_decimal}
use Rattle.serde_json.specs.Data.{string}
use Rattle.serde_json.specs.View.{view}
use Rattle.replica_state.specs.States.{rights_of}
use Rattle.report_text.specs.Report.{by_node}
use Rattle.report_text.proofs.json_report.rights_value.Given as goal

abbrev pub invariant-loop-node : goal.invariant-loop-node
invariant-loop-node g l = map view l.values.items ≡ map (λ at. string (signed_decimal at.1))
    (by_node l.node (rights_of (g.R.Replica.state l.replica) l.name l.term))
