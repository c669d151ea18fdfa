use Rattle.std.proofs.Common.{ℕ, List, Some, cond, ap, ◌∙◌, sym}
use Rattle.std.specs.BTreeMap.{BTreeMap, insert_entry, is_at}
use Rattle.std.specs.Option.{option_map, option_copied}
use Rattle.std.specs.Ordering.{nat_cmp}
use Rattle.std.specs.Cmp.Lexicographic.{slice_cmp}
use Rattle.stamp_register.specs.Keys.{key_value}
use Rattle.op_set.specs.declared.point.Point.{Point}
use Rattle.replica_state.specs.Points.{held_after_learning}
use Rattle.op_set.specs.Shown.{shown, point_at}
use Rattle.replica_state.specs.Cells.{held_at, with_held}
use Rattle.replica_state.proofs.Learned.{on_ok, on_err}
use Rattle.op_set.proofs.Shown.{lent_step, kept_step, added_step}
use Rattle.op_set.proofs.point_map.Points.learn.Goals as goal

pub returns-in-Some-clause-ok : goal.returns-in-Some-clause-ok
returns-in-Some-clause-ok c = rw (← c.self.view_is) (on_ok c.learn.result
    (lent_step c.self.inside.map c.get_mut.follows.lender c.args.name.now c.in-Some.point.now _ c.get_mut.follows.holds
    c.get_mut.ensures.ordered (sym c.in-Some.ensures.value) (held_after_learning _ c.args.count)) c.learn.ensures.ok)

pub returns-in-Some-clause-err : goal.returns-in-Some-clause-err
returns-in-Some-clause-err c = rw (← c.self.view_is) (on_err c.learn.result
    (kept_step c.self.inside.map c.get_mut.follows.lender c.args.name.now c.in-Some.point.now _ c.get_mut.follows.holds
    c.get_mut.ensures.ordered (sym c.in-Some.ensures.value)) c.learn.ensures.err)

pub returns-clause-ok : goal.returns-clause-ok
returns-clause-ok c =
    let none = c.get_mut.follows.holds-at-none in
    let change = held_after_learning (option_map key_value (option_copied c.args.key)) c.args.count in
    rw (← c.self.view_is) (added_step c.get_mut.follows.lender-at-none c.insert.new.self c.args.name.now
    c.learn-2.new.self (c.in_ok-insert.ensures.entries ∙
    ap (λ n. insert_entry (slice_cmp nat_cmp) c.get_mut.follows.lender-at-none.entries n c.learn-2.new.self)
    c.in_ok-copied.ensures) (λ q. c.in_ok-insert.ensures.updates.0 q ∙
    ap (λ n. cond (is_at (slice_cmp nat_cmp n) q) (Some c.learn-2.new.self)
    (point_at c.get_mut.follows.lender-at-none.entries q)) c.in_ok-copied.ensures)
    (ap (λ (m : BTreeMap (List ℕ) Point). point_at m.entries c.args.name.now) none ∙ sym c.in_default.ensures.value)
    change (c.in_ok-learn.ensures.ok ∙ ap change c.empty-point.ensures) ∙
    ap (λ (m : BTreeMap (List ℕ) Point). with_held c.args.name.now (change (held_at (shown m.entries) c.args.name.now))
    (shown m.entries)) none)
