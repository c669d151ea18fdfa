use Rattle.http_routes.specs.Asked.{node_request_value}
use Rattle.http_routes.specs.Replies.{http_value}
use Rattle.http_routes.specs.Requests.{wanted_of}
use Rattle.http_serve.proofs.Calls.{served}
use Rattle.http_serve.proofs.handler.forgetting.ForgettingHandlerNodeAnswers.reply.Goals as goal

pub returns : goal.returns
returns g c =
    served g.L.Label.config g.L.Label.seed g.L.Label.keeps g.L.Ledger.parts _ _
    (wanted_of (node_request_value c.args.request.now) c.args.body.items) (http_value c.answer.result)
    c.answer.ensures.answers
