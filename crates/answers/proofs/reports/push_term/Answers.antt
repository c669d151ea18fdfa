use Rattle.std.proofs.Common.{[]}
use Rattle.std.specs.Prelude.{codes}
use Rattle.report_text.specs.Report.{counted_row}
use Rattle.answers.specs.Objects.{closing, granted_member, number_member, opening, plain_member, rights_members}
use Rattle.answers.proofs.Parts.{ended, joined}
use Rattle.answers.proofs.reports.push_term.Goals as goal

pub returns : goal.returns
returns g c =
    let row = counted_row (g.R.Replica.state c.args.replica.now) c.args.nodes c.args.name.now c.args.term c.args.count in
    ended _ _ _ c.end.result c.end.ensures
    (joined c.args.out.now.items (opening (codes "term")) (number_member (codes "term") row.term)
    (number_member (codes "count") row.count) (granted_member row.granted) (number_member (codes "spent") row.spent)
    (plain_member (codes "rights") []) (rights_members row.rights) closing c.in_ok-begin.ensures
    (rw c.from.ensures at c.in_ok-push_number.ensures) (rw c.from-2.ensures at c.in_ok-push_number-2.ensures)
    (rw c.total_granted.ensures at c.in_ok-push_granted.ensures) (rw c.spent.ensures at c.in_ok-push_number-3.ensures)
    c.in_ok-push_plain.ensures c.in_ok-push_rights.ensures)
