use Rattle.std.proofs.Common.{◌≡◌, ◌++◌}
use Rattle.replica_state.specs.States.{rights_of}
use Rattle.report_text.specs.Report.{by_node}
use Rattle.answers.specs.Objects.{rights_members}
use Rattle.answers.proofs.reports.push_rights.Given as goal

abbrev pub invariant-loop-node : goal.invariant-loop-node
invariant-loop-node g l = l.out.items ≡ l.initial.out.items ++
    rights_members (by_node l.node (rights_of (g.R.Replica.state l.replica) l.name l.term))
