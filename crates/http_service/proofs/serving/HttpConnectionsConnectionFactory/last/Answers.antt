use Rattle.std.proofs.lemmas.Result.{IfOk-weaker}
use Rattle.http_service.proofs.Delays.{if_there}
use Rattle.http_service.proofs.serving.HttpConnectionsConnectionFactory.last.Goals as goal

pub returns-clause-last : goal.returns-clause-last
returns-clause-last g c =
    rw c.ok.ensures.value (if_there c.timeout.result _
    (IfOk-weaker c.timeout.result _ _ (λ timed is. (c.from_secs-last.result, c.from_secs-last.ensures, is))
    c.timeout.ensures.deadline))
