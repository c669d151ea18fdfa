use Rattle.std.proofs.Common.{Some, None}
use Rattle.http_routes.specs.Replies.{http_value}
use Rattle.http_serve.proofs.Spreads.{spread_goes}
use Rattle.http_serve.proofs.handler.spreading.SpreadRequestBatchHttpReply.make.Goals as goal

pub returns-in-Some-clause-goes_on : goal.returns-in-Some-clause-goes_on
returns-in-Some-clause-goes_on c =
    spread_goes c.args.node.now c.args.self.now.name.now (Some c.in-Some.text.now) c.set_spread.new.core
    (http_value c.set_spread.result) c.set_spread.ensures

pub returns-in-None-clause-goes_on : goal.returns-in-None-clause-goes_on
returns-in-None-clause-goes_on c =
    spread_goes c.args.node.now c.args.self.now.name.now None c.spread.new.core (http_value c.spread.result)
    c.spread.ensures
