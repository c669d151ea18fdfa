use Rattle.std.proofs.Common.{◌≡◌, map}
use Rattle.std.specs.List.{filter_map, range_with_len}
use Rattle.serde_json.specs.View.{view}
use Rattle.stamp_register.specs.Keys.{key_value}
use Rattle.report_text.specs.Report.{term_row}
use Rattle.report_text.specs.Json.{term_data}
use Rattle.report_text.proofs.json_report.terms_value.Given as goal

abbrev pub invariant-loop-term : goal.invariant-loop-term
invariant-loop-term g l =
    map view l.values.items
    ≡ map term_data (filter_map (term_row (g.R.Replica.state l.replica) l.nodes l.name (key_value l.key))
    (range_with_len 0 l.term))
