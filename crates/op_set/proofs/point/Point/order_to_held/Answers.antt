use Rattle.std.proofs.Common.{Option, ap, sym, ◌∙◌}
use Rattle.std.specs.Prelude.{option_map}
use Rattle.stamp_register.specs.declared.key.Key.{Key}
use Rattle.stamp_register.specs.Keys.{key_value}
use Rattle.replica_state.specs.Points.{order_to_held}
use Rattle.op_set.proofs.point.Point.order_to_held.Goals as goal

pub returns-in-Some : goal.returns-in-Some
returns-in-Some c = c.cmp.ensures ∙ ap (λ (o : Option Key). order_to_held (key_value c.args.key.now)
    (option_map key_value o)) (sym c.in-Some.is)
