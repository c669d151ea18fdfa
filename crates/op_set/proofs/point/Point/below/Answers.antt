use Rattle.std.proofs.Common.{Option, option_map, ap, ◌∙◌, sym, refl}
use Rattle.std.specs.declared.cmp.Ordering.TheVariants.{Less, Equal, Greater}
use Rattle.stamp_register.specs.Keys.{key_value}
use Rattle.stamp_register.specs.declared.key.Key.{Key}
use Rattle.op_set.specs.Counts.{held_of}
use Rattle.replica_state.specs.Unions.{key_order}
use Rattle.op_set.proofs.PointJoins.{below_held}
use Rattle.op_set.proofs.point.Point.below.Goals as goal

pub returns-in-None-key : goal.returns-in-None-key
unfolding held_of
returns-in-None-key c = below_held _ _ c.args.self.now.counts.items c.args.other.now.counts.items Equal
    c.all_below.result _ _ (λ i. key_order (option_map key_value (c.in-None.is i))
    (option_map key_value (c.in-None-key.is i))) c.deref.ensures.value c.deref-in-None-key.ensures.value
    c.all_below.ensures

pub returns-in-Some-key : goal.returns-in-Some-key
unfolding held_of
returns-in-Some-key c = below_held _ _ c.args.self.now.counts.items c.args.other.now.counts.items Less
    c.all_below-in-Some-key.result _ _ (λ i. key_order (option_map key_value (c.in-None.is i))
    (option_map key_value (c.in-Some-key.is i))) c.deref-in-Some-key.ensures.value c.deref-in-Some-key-2.ensures.value
    c.all_below-in-Some-key.ensures

pub returns-in-Less : goal.returns-in-Less
unfolding held_of
returns-in-Less c = below_held _ _ c.args.self.now.counts.items c.args.other.now.counts.items Less
    c.all_below-in-Less.result _ _ (ap (λ (o : Option Key). key_order (option_map key_value o)
    (option_map key_value c.args.other.now.key)) c.in-Some.is ∙ sym c.in-Less.ensures) c.deref-in-Less.ensures.value
    c.deref-in-Less-2.ensures.value c.all_below-in-Less.ensures

pub returns-in-Equal : goal.returns-in-Equal
unfolding held_of
returns-in-Equal c = below_held _ _ c.args.self.now.counts.items c.args.other.now.counts.items Equal
    c.all_below-in-Equal.result _ _ (ap (λ (o : Option Key). key_order (option_map key_value o)
    (option_map key_value c.args.other.now.key)) c.in-Some.is ∙ sym c.in-Equal.ensures) c.deref-in-Equal.ensures.value
    c.deref-in-Equal-2.ensures.value c.all_below-in-Equal.ensures

pub returns-in-Greater : goal.returns-in-Greater
unfolding held_of
returns-in-Greater c = below_held _ _ c.args.self.now.counts.items c.args.other.now.counts.items Greater _ _ _
    (ap (λ (o : Option Key). key_order (option_map key_value o) (option_map key_value c.args.other.now.key))
    c.in-Some.is ∙ sym c.in-Greater.ensures) refl refl refl
