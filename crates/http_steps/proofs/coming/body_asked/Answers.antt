use Rattle.std.proofs.Common.{List, ℕ, Result, refl, subst}
use Rattle.http_exchange.specs.Accepted.{IsAskedBy}
use Rattle.http_exchange.specs.Keys.{key_in}
use Rattle.http_exchange.specs.declared.accepted.Asking.{Asking}
use Rattle.http_routes.specs.Asked.{asked_value}
use Rattle.http_routes.specs.declared.http_reply.HttpReply.{HttpReply}
use Rattle.http_steps.proofs.coming.body_asked.Goals as goal

pub returns-in-Ok : goal.returns-in-Ok
returns-in-Ok c = λ came has.
    let accepted = c.args.accepted.now in (
      c.in-Ok.asking,
      refl,
      subst (λ (it : Result Asking HttpReply). IsAskedBy (key_in accepted.access) c.args.fields.now
          (asked_value accepted.asked) came it) c.in-Ok.is (c.asking.ensures came has),
    )
