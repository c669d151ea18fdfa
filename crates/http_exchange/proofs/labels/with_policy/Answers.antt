use Rattle.std.proofs.lemmas.Result.{IfOk-weaker}
use Rattle.http_exchange.proofs.Fields.{policy_put}
use Rattle.http_exchange.proofs.labels.with_policy.Goals as goal

pub returns : goal.returns
returns c =
    IfOk-weaker c.with_field-3.result _ _
    (λ all is. policy_put c.args.fields _ _ all _ _ _ c.from_static-policy.ensures c.in_ok-fields.ensures
    c.from_static.ensures c.in_ok-fields-2.ensures c.from_static-no_referrer.ensures is)
    c.with_field-3.ensures
