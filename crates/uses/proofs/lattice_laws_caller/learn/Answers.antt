use Rattle.std.proofs.lemmas.Result.{on_ok_weaker}
use Rattle.uses.proofs.lattice_laws_caller.learn.Goals as goal

pub returns-clause-learned : goal.returns-clause-learned
returns-clause-learned g c = on_ok_weaker c.join_in.result (λ joined. joined.above_second) c.join_in.ensures.ok

pub returns-clause-kept : goal.returns-clause-kept
returns-clause-kept g c = on_ok_weaker c.join_in.result (λ joined. joined.above_first) c.join_in.ensures.ok

pub returns-clause-err : goal.returns-clause-err
returns-clause-err g c = c.join_in.ensures.err
