use Rattle.std.proofs.Common.{ℕ, List, ap, ◌∙◌, sym}
use Rattle.std.specs.BTreeMap.{BTreeMap}
use Rattle.stamp_register.specs.Keys.{key_value}
use Rattle.op_set.specs.declared.point.Point.{Point}
use Rattle.replica_state.specs.Points.{held_after_key}
use Rattle.op_set.specs.Shown.{shown, point_at}
use Rattle.replica_state.specs.Cells.{held_at, with_held}
use Rattle.op_set.proofs.Learned.{held_taken}
use Rattle.op_set.proofs.Shown.{lent_step, added_step}
use Rattle.replica_state.proofs.Shown.{took}
use Rattle.op_set.proofs.point_map.Points.set_key.Goals as goal

pub returns-in-Some-clause-ok : goal.returns-in-Some-clause-ok
returns-in-Some-clause-ok c = rw (← c.self.view_is) (lent_step c.self.inside.map c.get_mut.follows.lender c.args.name
    c.in-Some.point.now _ c.get_mut.follows.holds c.get_mut.ensures.ordered (sym c.in-Some.ensures.value)
    (held_after_key (key_value c.args.key)) (held_taken c.in-Some.point.now c.take.new.self c.args.key
    c.take.ensures.key c.take.ensures.number) ∙ took c.args.name (key_value c.args.key)
    (shown c.self.inside.map.entries))

pub returns-clause-ok : goal.returns-clause-ok
returns-clause-ok c =
    let none = c.get_mut.follows.holds-at-none in
    rw (← c.self.view_is) (added_step c.get_mut.follows.lender-at-none c.insert.new.self c.args.name c.take-2.new.self
    c.in_ok-insert.ensures.entries c.in_ok-insert.ensures.updates.0
    (ap (λ (m : BTreeMap (List ℕ) Point). point_at m.entries c.args.name) none ∙ sym c.in_default.ensures.value)
    (held_after_key (key_value c.args.key)) (held_taken c.empty-point.result c.take-2.new.self c.args.key
    c.take-2.ensures.key c.take-2.ensures.number ∙ ap (λ h. held_after_key (key_value c.args.key) h)
    c.empty-point.ensures) ∙
    ap (λ (m : BTreeMap (List ℕ) Point). with_held c.args.name
    (held_after_key (key_value c.args.key) (held_at (shown m.entries) c.args.name)) (shown m.entries)) none ∙
    took c.args.name (key_value c.args.key) (shown c.self.inside.map.entries))
