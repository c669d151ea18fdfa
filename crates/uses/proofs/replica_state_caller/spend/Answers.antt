use Rattle.uses.proofs.replica_state_caller.spend.Goals as goal

pub count_pass-requires-clause-counted : goal.count_pass-requires-clause-counted
count_pass-requires-clause-counted g c = c.is_counted.ensures.0 c.if-not-is_counted.false
