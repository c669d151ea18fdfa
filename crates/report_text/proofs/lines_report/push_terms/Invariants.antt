use Rattle.std.proofs.Common.{◌≡◌, ◌++◌, flat_map, string_bytes}
use Rattle.std.specs.List.{filter_map, range_with_len}
use Rattle.stamp_register.specs.Keys.{key_value}
use Rattle.report_text.specs.Report.{term_row}
use Rattle.report_text.specs.Lines.{term_line}
use Rattle.report_text.proofs.lines_report.push_terms.Given as goal

abbrev pub invariant-loop-term : goal.invariant-loop-term
invariant-loop-term g l =
    string_bytes l.text ≡ string_bytes l.initial.text
    ++ flat_map term_line (filter_map (term_row (g.R.Replica.state l.replica) l.nodes l.name (key_value l.key))
    (range_with_len 0 l.term))
