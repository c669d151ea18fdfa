use Rattle.std.proofs.lemmas.Result.{on_ok_weaker}
use Rattle.uses.proofs.counters_caller.take_in.Goals as goal

pub returns-clause-more : goal.returns-clause-more
returns-clause-more c =
    on_ok_weaker c.join_in.result (λ joined. ((c.budgets_by_cell.ensures.order _ _).0 joined.above_first).0)
    c.join_in.ensures.ok

pub returns-clause-learned : goal.returns-clause-learned
returns-clause-learned c =
    on_ok_weaker c.join_in.result (λ joined. ((c.budgets_by_cell.ensures.order _ _).0 joined.above_second).0)
    c.join_in.ensures.ok

pub returns-clause-err : goal.returns-clause-err
returns-clause-err c = c.join_in.ensures.err
