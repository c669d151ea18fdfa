use Rattle.replica_state.proofs.slot.raise_share.Goals as goal

pub returns-in-Execs-clause-ok : goal.returns-in-Execs-clause-ok
returns-in-Execs-clause-ok c = rw c.in-Execs.is c.raise_spent.ensures.ok

pub returns-in-Shifts-clause-ok : goal.returns-in-Shifts-clause-ok
returns-in-Shifts-clause-ok c = rw c.in-Shifts.is c.raise_moved.ensures.ok
