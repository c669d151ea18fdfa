use Rattle.std.proofs.Common.{◌≡◌, ◌++◌, map, flat_map, string_bytes}
use Rattle.std.specs.List.{filter_map}
use Rattle.report_text.specs.Report.{point_row}
use Rattle.report_text.specs.Lines.{point_lines, report_lines_text}
use Rattle.report_text.proofs.lines_report.report_lines.Given as goal

abbrev pub invariant-loop-name : goal.invariant-loop-name
invariant-loop-name g l =
    let v = g.R.Replica.state l.replica in
    string_bytes l.text ++ flat_map point_lines (filter_map (point_row v l.nodes) (map (λ e. e.0) l.name-iterator))
    ≡ report_lines_text v l.nodes
