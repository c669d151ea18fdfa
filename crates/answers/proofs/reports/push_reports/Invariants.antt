use Rattle.std.proofs.Common.{◌≡◌, ◌++◌, map, flat_map}
use Rattle.std.specs.List.{filter_map}
use Rattle.report_text.specs.Report.{point_row}
use Rattle.answers.specs.Objects.{point_objects, report_objects}
use Rattle.answers.proofs.reports.push_reports.Given as goal

abbrev pub invariant-loop-name : goal.invariant-loop-name
invariant-loop-name g l =
    let v = g.R.Replica.state l.replica in
    l.out.items ++ flat_map point_objects (filter_map (point_row v l.nodes) (map (λ e. e.0) l.name-iterator))
    ≡ l.initial.out.items ++ report_objects v l.nodes
