use Rattle.std.proofs.lemmas.Result.{IfOk-weaker}
use Rattle.http_service.proofs.Delays.{if_there}
use Rattle.http_service.proofs.serving.HttpConnectionsConnectionFactory.rest.Goals as goal

pub returns : goal.returns
returns g c =
    rw c.ok.ensures.value (if_there c.sleep.result _
    (IfOk-weaker c.sleep.result _ _ (λ sleep is. (c.from_millis-rest.result, c.from_millis-rest.ensures, is))
    c.sleep.ensures))
