use Rattle.std.proofs.Common.{Option, option_map, ap}
use Rattle.stamp_register.specs.Keys.{key_value}
use Rattle.stamp_register.specs.declared.key.Key.{Key}
use Rattle.op_set.specs.Counts.{held_of}
use Rattle.replica_state.proofs.Learned.{on_ok, on_err, held_counted}
use Rattle.op_set.proofs.Learned.{same_held}
use Rattle.op_set.proofs.point.Point.shift.Goals as goal

pub returns-clause-ok : goal.returns-clause-ok
unfolding held_of
returns-clause-ok c =
    let raised = rw c.times.ensures at c.count.ensures.ok in
    on_ok c.count.result (λ f. held_counted (held_of c.args.self.now) (held_of c.count.new.self) _
    (ap (λ (o : Option Key). option_map key_value o) c.count.ensures.key) f) raised

pub returns-clause-err : goal.returns-clause-err
returns-clause-err c = on_err c.count.result (λ e. same_held c.args.self.now c.count.new.self c.count.ensures.key e)
    c.count.ensures.err
