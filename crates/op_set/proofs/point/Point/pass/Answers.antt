use Rattle.std.proofs.Common.{◌≡◌, Some, ap, ◌∙◌, refl, sym}
use Rattle.op_set.specs.Counts.{held_of}
use Rattle.replica_state.specs.Points.{spending}
use Rattle.op_set.proofs.Learned.{passed_held}
use Rattle.op_set.proofs.point.Point.pass.Goals.{in-Some, in-None}
use Rattle.op_set.proofs.point.Point.pass.Goals as goal

pub returns-clause-ok : goal.returns-clause-ok
unfolding held_of
returns-clause-ok c =
    let execs : c.match-spent.execs ≡ spending c.args.node c.args.spent (held_of c.args.self.now) =
    elim c.match-spent.branch [
      | in-Some w ↦ w.execs-is ∙ ap (λ x. Some x) w.next.ensures ∙
          ap (λ s. spending c.args.node s (held_of c.args.self.now)) (sym w.in-Some.is)
      | in-None w ↦ w.execs-is ∙ ap (λ s. spending c.args.node s (held_of c.args.self.now)) (sym w.in-None.is)
    ] in
    passed_held c.args.self.now (record { key = c.args.self.now.key; counts = c.put.new.counts }) c.args.node
    c.args.spent c.next-hits.result c.match-spent.execs c.reserve.new.self.items c.raise.new.counts.items
    c.in_ok-reserve.ensures.items refl c.next-hits.ensures execs c.raise.ensures.number c.put.ensures
