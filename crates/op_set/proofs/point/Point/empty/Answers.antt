use Rattle.std.proofs.Common.{None}
use Rattle.op_set.specs.Counts.{held_of, number_of}
use Rattle.replica_state.specs.Points.{empty_held}
use Rattle.op_set.proofs.point.Point.empty.Goals as goal

pub returns : goal.returns
unfolding held_of empty_held
returns c = λ i. record { key = None; number = number_of (c.new.ensures.items i) }
