use Rattle.http_routes.specs.Replies.{http_value}
use Rattle.http_serve.proofs.Calls.{called_by}
use Rattle.http_serve.proofs.handler.NodeReader.call.Goals as goal

pub returns : goal.returns
returns g c =
    let made = c.submit-outcome.ensures in
    called_by g.L.Label.config g.L.Label.seed g.L.Label.keeps g.L.Ledger.parts c.args.seat.now c.submit-outcome.new.seat
    c.args.ask (http_value c.reply.result) c.submit-outcome.result
    made.answered made.refused made.counted made.err c.reply.ensures.accepted c.reply.ensures.refused
