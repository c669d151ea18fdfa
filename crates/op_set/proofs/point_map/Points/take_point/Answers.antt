use Rattle.std.proofs.Common.{ℕ, List, Some, cond, ap, ◌∙◌, sym}
use Rattle.std.specs.BTreeMap.{BTreeMap, insert_entry, is_at}
use Rattle.std.specs.Ordering.{nat_cmp}
use Rattle.std.specs.Cmp.Lexicographic.{slice_cmp}
use Rattle.op_set.specs.declared.point.Point.{Point}
use Rattle.replica_state.specs.Points.{Held}
use Rattle.op_set.specs.Counts.{held_of}
use Rattle.replica_state.specs.Unions.{both_held}
use Rattle.op_set.specs.Shown.{shown, point_at}
use Rattle.replica_state.specs.Cells.{held_at, with_held}
use Rattle.replica_state.proofs.Learned.{on_ok}
use Rattle.op_set.proofs.Shown.{lent_step, added_step}
use Rattle.op_set.proofs.point_map.Points.take_point.Goals as goal

pub returns-in-Some : goal.returns-in-Some
returns-in-Some c = rw (← c.self.view_is) (on_ok c.take_in.result
    (lent_step c.self.inside.map c.get_mut.follows.lender c.args.name.now c.in-Some.point.now _ c.get_mut.follows.holds
    c.get_mut.ensures.ordered (sym c.in-Some.ensures.value) (λ h. both_held h (held_of c.args.other.now)))
    c.take_in.ensures)

pub returns : goal.returns
returns c =
    let none = c.get_mut.follows.holds-at-none in
    let change = λ (h : Held). both_held h (held_of c.args.other.now) in
    rw (← c.self.view_is) (added_step c.get_mut.follows.lender-at-none c.insert.new.self c.args.name.now
    c.take_in-2.new.self (c.in_ok-insert.ensures.entries ∙
    ap (λ n. insert_entry (slice_cmp nat_cmp) c.get_mut.follows.lender-at-none.entries n c.take_in-2.new.self)
    c.in_ok-copied.ensures) (λ q. c.in_ok-insert.ensures.updates.0 q ∙
    ap (λ n. cond (is_at (slice_cmp nat_cmp n) q) (Some c.take_in-2.new.self)
    (point_at c.get_mut.follows.lender-at-none.entries q)) c.in_ok-copied.ensures)
    (ap (λ (m : BTreeMap (List ℕ) Point). point_at m.entries c.args.name.now) none ∙ sym c.in_default.ensures.value)
    change (c.in_ok-take_in.ensures ∙ ap change c.empty-point.ensures) ∙
    ap (λ (m : BTreeMap (List ℕ) Point). with_held c.args.name.now (change (held_at (shown m.entries) c.args.name.now))
    (shown m.entries)) none)
