use Rattle.std.proofs.Common.{ap, ◌∙◌}
use Rattle.std.specs.Prelude.{option_map}
use Rattle.stamp_register.specs.Keys.{key_value}
use Rattle.replica_state.specs.MatrixOrder.{First}
use Rattle.replica_state.specs.Points.{order_to_held}
use Rattle.replica_state.proofs.slot.order_to_held.Goals as goal

pub returns-in-Some : goal.returns-in-Some
returns-in-Some c = c.cmp.ensures ∙ ap (λ (f : First). order_to_held (key_value c.args.key.now)
    (option_map (λ p. key_value p.0) f)) c.in-Some.ensures
