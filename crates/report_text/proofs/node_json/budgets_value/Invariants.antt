use Rattle.std.proofs.Common.{◌≡◌, map}
use Rattle.std.specs.List.{filter_map, range_with_len}
use Rattle.serde_json.specs.View.{view}
use Rattle.stamp_register.specs.Keys.{key_value}
use Rattle.report_text.specs.Status.{budget_data, counted_budget}
use Rattle.report_text.proofs.node_json.budgets_value.Given as goal

abbrev pub invariant-loop-term : goal.invariant-loop-term
invariant-loop-term g l =
    map view l.values.items
    ≡ map budget_data (filter_map (counted_budget (g.R.Replica.state l.replica) l.nodes l.name (key_value l.key))
    (range_with_len 0 l.term))
