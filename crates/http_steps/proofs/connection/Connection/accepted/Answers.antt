use Rattle.http_steps.proofs.Requests.{let_in}
use Rattle.http_steps.proofs.connection.Connection.accepted.Goals as goal

pub returns-clause-ok : goal.returns-clause-ok
returns-clause-ok c =
    let_in c.coming_of.result c.args.service.now c.in_ok-came.came c.args.self.now.input.items c.args.spans.now
    c.args.head.now c.in_ok-parts.parts c.in_ok-came.ensures.ok c.in_ok-parts.ensures.ok c.coming_of.ensures
