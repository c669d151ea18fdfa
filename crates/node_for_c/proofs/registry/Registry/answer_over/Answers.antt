use Rattle.std.proofs.Common.{Option, subst}
use Rattle.http_steps.specs.Requests.{IsRequestIn}
use Rattle.http_steps.specs.declared.coming.Whole.{Whole}
use Rattle.node_for_c.proofs.Served.{answered_over}
use Rattle.node_for_c.proofs.registry.Registry.answer_over.Goals as goal

pub returns-clause-some : goal.returns-clause-some
returns-clause-some c =
    answered_over c.args.now c.serve-reply.result c.args.self.now c.serve-reply.new.self c.in_ok-whole.whole c.answer.new.self
    c.serve-reply.ensures c.args.connection.now.stage c.in_ok-whole.ensures c.answer.ensures
