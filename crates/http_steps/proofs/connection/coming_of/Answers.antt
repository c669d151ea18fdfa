use Rattle.std.proofs.Common.{[], subst, sym}
use Rattle.http_exchange.specs.Keeping.{HasCome}
use Rattle.http_exchange.specs.declared.accepted.Accepted.{Accepted}
use Rattle.http_routes.specs.Asked.{asked_value, keeps_of}
use Rattle.http_steps.specs.Heads.{IsAcceptedBy}
use Rattle.http_steps.proofs.connection.coming_of.Goals as goal

pub returns : goal.returns
returns c =
    record {
      accepted = subst (λ (it : Accepted). IsAcceptedBy c.args.service.now c.args.parts it) (sym c.new.ensures.accepted)
          c.in_ok-accepted.ensures.ok;
      fields = c.new.ensures.fields;
      kept = subst (λ (it : Accepted). HasCome (keeps_of (asked_value it.asked)) c.new.result.kept [])
          (sym c.new.ensures.accepted) c.new.ensures.kept;
    }
