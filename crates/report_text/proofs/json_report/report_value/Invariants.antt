use Rattle.std.proofs.Common.{◌≡◌, ◌++◌, map}
use Rattle.std.specs.List.{filter_map}
use Rattle.serde_json.specs.View.{view}
use Rattle.report_text.specs.Report.{point_row, point_rows}
use Rattle.report_text.specs.Json.{point_data}
use Rattle.report_text.proofs.json_report.report_value.Given as goal

abbrev pub invariant-loop-name : goal.invariant-loop-name
invariant-loop-name g l =
    let v = g.R.Replica.state l.replica in
    map view l.values.items ++ map point_data (filter_map (point_row v l.nodes) (map (λ e. e.0) l.name-iterator))
    ≡ map point_data (point_rows v l.nodes)
