use Rattle.std.proofs.Common.{◌≡◌, ◌++◌, string_bytes}
use Rattle.replica_state.specs.States.{rights_of}
use Rattle.report_text.specs.Report.{by_node}
use Rattle.report_text.specs.Lines.{rights_text}
use Rattle.report_text.proofs.lines_report.push_rights.Given as goal

abbrev pub invariant-loop-node : goal.invariant-loop-node
invariant-loop-node g l = string_bytes l.text ≡ string_bytes l.initial.text ++
    rights_text (by_node l.node (rights_of (g.R.Replica.state l.replica) l.name l.term))
