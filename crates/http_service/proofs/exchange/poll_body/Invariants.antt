use Rattle.futures.specs.Task.{Keeps}
use Rattle.http_service.specs.Exchanges.{GoesFrom, pieces_of}
use Rattle.http_service.proofs.exchange.poll_body.Given as goal

abbrev pub invariant-loop : goal.invariant-loop
invariant-loop g l =
    GoesFrom (pieces_of l.fn.body) l.fn.kept (pieces_of l.body) l.kept × Keeps l.fn.cx l.cx
