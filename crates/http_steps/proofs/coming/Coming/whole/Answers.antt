use Rattle.std.proofs.Common.{ℕ, Result, Vec, refl, subst}
use Rattle.std.specs.Global.{Global}
use Rattle.http_routes.specs.declared.http_reply.HttpReply.{HttpReply}
use Rattle.http_steps.specs.Requests.{IsBodyAsked}
use Rattle.http_steps.proofs.coming.Coming.whole.Goals as goal

pub returns-in-Ok : goal.returns-in-Ok
returns-in-Ok c = λ came has. (
  refl,
  refl,
  subst (λ (it : Result (Vec ℕ Global) HttpReply). IsBodyAsked c.args.self.accepted c.args.self.fields came it) c.in-Ok.is
      (c.body_asked.ensures came has),
)
