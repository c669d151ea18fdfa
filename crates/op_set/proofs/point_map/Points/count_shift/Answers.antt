use Rattle.std.proofs.Common.{◌∙◌, sym}
use Rattle.replica_state.specs.Points.{held_after_shift}
use Rattle.op_set.specs.Shown.{shown}
use Rattle.replica_state.proofs.Learned.{on_ok, on_err}
use Rattle.op_set.proofs.Shown.{lent_step, kept_step, names_kept}
use Rattle.replica_state.proofs.Shown.{shift_seen}
use Rattle.op_set.proofs.point_map.Points.count_shift.Goals as goal

pub returns-in-Some-clause-ok : goal.returns-in-Some-clause-ok
unfolding shown
returns-in-Some-clause-ok c = rw (← c.self.view_is) (on_ok c.shift.result
    (λ h. lent_step c.self.inside.map c.get_mut.follows.lender c.args.name.now c.in-Some.point.now _
    c.get_mut.follows.holds c.get_mut.ensures.ordered (sym c.in-Some.ensures.value)
    (held_after_shift c.args.term c.args.from c.args.to c.args.total) h ∙
    shift_seen c.args.name.now c.args.term c.args.from c.args.to c.args.total (shown c.self.inside.map.entries)
    (rw c.self.view_is c.requires.more) (names_kept c.self.inside.map.entries c.args.name.now c.in-Some.point.now
    c.get_mut.ensures.ordered (sym c.in-Some.ensures.value))) c.shift.ensures.ok)

pub returns-in-Some-clause-err : goal.returns-in-Some-clause-err
returns-in-Some-clause-err c = rw (← c.self.view_is) (on_err c.shift.result
    (kept_step c.self.inside.map c.get_mut.follows.lender c.args.name.now c.in-Some.point.now _ c.get_mut.follows.holds
    c.get_mut.ensures.ordered (sym c.in-Some.ensures.value)) c.shift.ensures.err)
