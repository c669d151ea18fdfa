use Rattle.std.proofs.Common.{◌+◌, ◌<◌, ◌^◌, Option, IfSome, subst, ◌∙◌, sym}
use Rattle.op_set.specs.declared.point.Point.{Point}
use Rattle.replica_state.specs.Points.{held_after_pass}
use Rattle.op_set.specs.Shown.{shown, number_at}
use Rattle.operations.specs.declared.counted.Counted.TheVariants.{Execs}
use Rattle.replica_state.proofs.Learned.{on_ok, on_err}
use Rattle.op_set.proofs.Shown.{lent_step, kept_step, names_kept}
use Rattle.replica_state.proofs.Shown.{pass_seen}
use Rattle.op_set.proofs.point_map.Points.count_pass.Goals as goal

pub pass-requires-clause-execs : goal.pass-requires-clause-execs
unfolding shown
pass-requires-clause-execs c =
    subst (λ (o : Option Point). IfSome c.args.spent (λ term. number_at o (Execs term c.args.node) + 1 < 2 ^ 64))
    (sym c.in-Some.ensures.value) (rw c.self.view_is c.requires.execs)

pub returns-in-Some-clause-ok : goal.returns-in-Some-clause-ok
unfolding shown
returns-in-Some-clause-ok c = rw (← c.self.view_is) (on_ok c.pass.result
    (λ h. lent_step c.self.inside.map c.get_mut.follows.lender c.args.name.now c.in-Some.point.now _
    c.get_mut.follows.holds c.get_mut.ensures.ordered (sym c.in-Some.ensures.value)
    (held_after_pass c.args.node c.args.spent) h ∙ pass_seen c.args.name.now c.args.node c.args.spent
    (shown c.self.inside.map.entries) (names_kept c.self.inside.map.entries c.args.name.now c.in-Some.point.now
    c.get_mut.ensures.ordered (sym c.in-Some.ensures.value))) c.pass.ensures.ok)

pub returns-in-Some-clause-err : goal.returns-in-Some-clause-err
returns-in-Some-clause-err c = rw (← c.self.view_is) (on_err c.pass.result
    (kept_step c.self.inside.map c.get_mut.follows.lender c.args.name.now c.in-Some.point.now _ c.get_mut.follows.holds
    c.get_mut.ensures.ordered (sym c.in-Some.ensures.value)) c.pass.ensures.err)
