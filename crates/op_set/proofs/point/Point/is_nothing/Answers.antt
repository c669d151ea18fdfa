use Rattle.std.proofs.Common.{[], None, option_map, refl}
use Rattle.std.specs.declared.cmp.Ordering.TheVariants.{Equal, Greater}
use Rattle.stamp_register.specs.Keys.{key_value}
use Rattle.op_set.specs.Counts.{held_of}
use Rattle.replica_state.specs.Points.{empty_held}
use Rattle.replica_state.specs.Unions.{key_order}
use Rattle.op_set.proofs.PointJoins.{below_held}
use Rattle.op_set.proofs.point.Point.is_nothing.Goals as goal

pub returns-in-None : goal.returns-in-None
unfolding held_of empty_held
returns-in-None c = below_held _ None c.args.self.now.counts.items [] Equal c.all_below.result _ _
    (λ i. key_order (option_map key_value (c.in-None.is i)) None) c.deref.ensures.value refl c.all_below.ensures

pub returns-in-Some : goal.returns-in-Some
unfolding held_of empty_held
returns-in-Some c = below_held _ None c.args.self.now.counts.items [] Greater _ _ _
    (λ i. key_order (option_map key_value (c.in-Some.is i)) None) refl refl refl
