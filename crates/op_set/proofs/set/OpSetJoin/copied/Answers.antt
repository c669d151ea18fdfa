use Rattle.std.proofs.Common.{sym, subst}
use Rattle.replica_state.specs.Reached.{IsReached}
use Rattle.op_set.specs.SetOrder.{state_of}
use Rattle.op_set.proofs.StateJoins.{same_copies}
use Rattle.op_set.proofs.set.OpSetJoin.copied.Goals as goal

pub invariant_of-result : goal.invariant_of-result
invariant_of-result c = record { reached = subst IsReached (sym c.in_ok-points.ensures) c.args.self.now.reached }

pub returns-clause-copy : goal.returns-clause-copy
unfolding state_of
returns-clause-copy c = same_copies c.args.self.now _ c.in_ok-points.ensures

pub returns-clause-state : goal.returns-clause-state
unfolding state_of
returns-clause-state c = c.in_ok-points.ensures
