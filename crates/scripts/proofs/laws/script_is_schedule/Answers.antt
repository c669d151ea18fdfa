use Rattle.std.proofs.Common.{arith}
use Rattle.stamp_register.specs.Keys.{stamp_of}
use Rattle.cluster_model.proofs.RunLemmas.{escrow_holds, holds_what_it_learnt}
use Rattle.scripts.specs.Schedules.{carried_out, world_left}
use Rattle.scripts.proofs.LinesLeft.{lines_are_answered, lines_leave}
use Rattle.scripts.proofs.laws.script_is_schedule.Goals as goal

pub returns-clause-world : goal.returns-clause-world
returns-clause-world c = lines_leave

pub returns-clause-answered : goal.returns-clause-answered
returns-clause-answered c = lines_are_answered

pub returns-clause-conserved : goal.returns-clause-conserved
returns-clause-conserved c = λ r s. escrow_holds r.cluster (carried_out r) (world_left r) s.history

pub returns-clause-bounded : goal.returns-clause-bounded
returns-clause-bounded c = λ r s name key term count issued counted.
    let most = (escrow_holds r.cluster (carried_out r) (world_left r) s.history name key term count issued
    counted).at_most in
    let told = s.executions (stamp_of key) term in
    omega (arith, most, told)

pub returns-clause-learnt : goal.returns-clause-learnt
returns-clause-learnt c = λ r s. holds_what_it_learnt r.cluster (carried_out r) (world_left r) s.history
