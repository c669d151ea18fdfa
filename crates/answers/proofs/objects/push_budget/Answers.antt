use Rattle.std.specs.Prelude.{codes}
use Rattle.answers.specs.Objects.{closing, granted_member, number_member, opening, plain_member, stamp_member}
use Rattle.answers.proofs.Parts.{ended, joined}
use Rattle.answers.proofs.objects.push_budget.Goals as goal

pub returns : goal.returns
returns c =
    let total = c.args.total.now in
    ended _ _ _ c.end.result c.end.ensures
    (joined c.args.out.now.items (opening (codes "budget")) (plain_member (codes "name") total.name)
    (stamp_member total.stamp) (number_member (codes "term") total.term) (number_member (codes "count") total.count)
    (granted_member total.granted) (number_member (codes "executed") total.executed) closing c.in_ok-begin.ensures
    (rw c.text.ensures.text at c.in_ok-push_plain.ensures) c.in_ok-push_stamp.ensures
    (rw c.from.ensures at c.in_ok-push_number.ensures) (rw c.from-2.ensures at c.in_ok-push_number-2.ensures)
    c.in_ok-push_granted.ensures c.in_ok-push_number-3.ensures)
