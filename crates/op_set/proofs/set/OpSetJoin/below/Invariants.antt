use Rattle.op_set.specs.SetOrder.{state_of}
use Rattle.op_set.proofs.SetJoins.{BelowBefore}
use Rattle.op_set.proofs.set.OpSetJoin.below.Given as goal

abbrev pub invariant-loop-name : goal.invariant-loop-name
invariant-loop-name l = BelowBefore l.self.points l.name-iterator (state_of l.other)
