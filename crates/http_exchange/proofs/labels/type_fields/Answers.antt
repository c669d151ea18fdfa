use Rattle.std.proofs.lemmas.Result.{IfOk-weaker}
use Rattle.http_exchange.proofs.Fields.{types_put}
use Rattle.http_exchange.proofs.labels.type_fields.Goals as goal

pub returns : goal.returns
returns c =
    IfOk-weaker c.with_field-2.result _ _
    (λ safe is. types_put c.args.content _ _ safe _ _ c.new.ensures c.content_value.ensures c.in_ok-fields.ensures
    c.from_static-nosniff.ensures is)
    c.with_field-2.ensures
