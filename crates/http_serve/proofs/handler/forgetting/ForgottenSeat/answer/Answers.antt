use Rattle.http_routes.specs.Asked.{node_request_value}
use Rattle.http_routes.specs.Replies.{http_value}
use Rattle.http_routes.specs.Requests.{wanted_of}
use Rattle.http_serve.proofs.Calls.{served_still}
use Rattle.http_serve.proofs.handler.forgetting.ForgottenSeat.answer.Goals as goal

pub returns-clause-answers : goal.returns-clause-answers
returns-clause-answers g c =
    served_still g.L.Label.config g.L.Label.seed g.L.Label.keeps g.L.Ledger.parts c.args.self.now.seat
    c.answer_from-reply.new.seat c.forget-self.new.seat
    (wanted_of (node_request_value c.args.request.now) c.args.body.items) (http_value c.answer_from-reply.result)
    c.forget-self.ensures.same c.answer_from-reply.ensures
