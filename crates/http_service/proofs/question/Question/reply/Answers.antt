use Rattle.std.proofs.Common.{List, ℕ, Result, subst}
use Rattle.std.specs.Arc.{arc_value}
use Rattle.http_exchange.specs.Accepted.{IsAskedBy}
use Rattle.http_exchange.specs.Keys.{key_in}
use Rattle.http_exchange.specs.declared.accepted.Asking.{Asking}
use Rattle.http_routes.specs.Asked.{asked_value, request_value}
use Rattle.http_routes.specs.Replies.{http_value}
use Rattle.http_routes.specs.declared.http_reply.HttpReply.{HttpReply}
use Rattle.http_service.proofs.Questions.{answered_by}
use Rattle.http_service.proofs.question.Question.reply.Goals as goal

pub returns-in-Ok : goal.returns-in-Ok
returns-in-Ok g c = λ came has.
    let self = c.args.self.now in
    let asking = c.in-Ok.asking in
    let asks = subst (λ (it : Result Asking HttpReply). IsAskedBy (key_in self.accepted.access) c.args.fields.now
    (asked_value self.accepted.asked) came it) c.in-Ok.is (c.asking.ensures came has) in
    answered_by (g.H.Handler.answers (arc_value self.handler)) (key_in self.accepted.access) c.args.fields.now
    (asked_value self.accepted.asked) came asking (http_value c.reply.result) asks
    (subst (λ h. g.H.Handler.answers h (request_value asking.request.now) asking.row asking.body.items
    (http_value c.reply.result)) c.deref.ensures c.reply.ensures)
