use Rattle.std.proofs.Common.{◌≡◌, ◌++◌, string_bytes}
use Rattle.report_text.specs.Report.{by_node}
use Rattle.report_text.specs.Lines.{hits_text}
use Rattle.report_text.proofs.lines_report.push_hits.Given as goal

abbrev pub invariant-loop-node : goal.invariant-loop-node
invariant-loop-node g l = string_bytes l.text ≡ string_bytes l.initial.text ++
    hits_text (by_node l.node ((g.R.Replica.state l.replica).hits l.name))
