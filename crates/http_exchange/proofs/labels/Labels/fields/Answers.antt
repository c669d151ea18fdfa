use Rattle.std.proofs.Common.{◌≡◌, IfOk, subst}
use Rattle.http_exchange.specs.Labels.{with_tag}
use Rattle.http_exchange.proofs.labels.Labels.fields.Goals as goal

pub returns : goal.returns
returns c =
    subst (λ fields. IfOk c.with_tag.result (λ all. all ≡ with_tag c.args.tag fields)) c.in_ok-untagged_fields.ensures
    c.with_tag.ensures
