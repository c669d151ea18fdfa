use Rattle.std.proofs.Common.{◌≡◌, ◌++◌, map}
use Rattle.std.specs.List.{filter_map}
use Rattle.serde_json.specs.View.{view}
use Rattle.report_text.specs.Status.{all_budgets, budgets_data, point_budgets}
use Rattle.report_text.proofs.node_json.points_value.Given as goal

abbrev pub invariant-loop-name : goal.invariant-loop-name
invariant-loop-name g l =
    let v = g.R.Replica.state l.replica in
    map view l.values.items ++ map budgets_data (filter_map (point_budgets v l.nodes) (map (λ e. e.0) l.name-iterator))
    ≡ map budgets_data (all_budgets v l.nodes)
