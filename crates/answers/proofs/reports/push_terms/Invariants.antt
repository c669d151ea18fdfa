use Rattle.std.proofs.Common.{◌≡◌, ◌++◌, flat_map}
use Rattle.std.specs.List.{filter_map, range_with_len}
use Rattle.stamp_register.specs.Keys.{key_value}
use Rattle.report_text.specs.Report.{term_row}
use Rattle.answers.specs.Objects.{term_object}
use Rattle.answers.proofs.reports.push_terms.Given as goal

abbrev pub invariant-loop-term : goal.invariant-loop-term
invariant-loop-term g l =
    l.out.items ≡ l.initial.out.items
    ++ flat_map term_object (filter_map (term_row (g.R.Replica.state l.replica) l.nodes l.name (key_value l.key))
    (range_with_len 0 l.term))
