use Rattle.op_set.specs.SetOrder.{state_of, no_points}
use Rattle.op_set.proofs.SetJoins.{BelowBefore}
use Rattle.op_set.proofs.set.OpSetJoin.is_bottom.Given as goal

abbrev pub invariant-loop-point : goal.invariant-loop-point
invariant-loop-point l = BelowBefore l.self.points l.point-iterator (state_of no_points)
