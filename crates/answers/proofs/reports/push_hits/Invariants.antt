use Rattle.std.proofs.Common.{◌≡◌, ◌++◌}
use Rattle.report_text.specs.Report.{by_node}
use Rattle.answers.specs.Objects.{hits_members}
use Rattle.answers.proofs.reports.push_hits.Given as goal

abbrev pub invariant-loop-node : goal.invariant-loop-node
invariant-loop-node g l = l.out.items ≡ l.initial.out.items ++
    hits_members (by_node l.node ((g.R.Replica.state l.replica).hits l.name))
