use Rattle.std.proofs.Common.{◌≡◌, ◌∙◌, ap, IfOk, subst}
use Rattle.http_exchange.specs.Labels.{with_challenge, with_methods, with_policy_of}
use Rattle.http_exchange.proofs.labels.Labels.untagged_fields.Goals as goal

pub returns : goal.returns
returns c =
    let labels = c.args.self in
    subst (λ fields. IfOk c.with_challenge.result (λ all. all ≡ with_challenge labels.asks_for_key fields))
    (c.in_ok-fields-3.ensures ∙ ap (with_methods labels.methods)
    (c.in_ok-fields-2.ensures ∙ ap (with_policy_of labels.content) c.in_ok-fields.ensures))
    c.with_challenge.ensures
