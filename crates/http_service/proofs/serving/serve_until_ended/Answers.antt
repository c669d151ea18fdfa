use denote.Exit.{yes}
use denote.Param.Send.{arg_send, param_send}
use Rattle.std.proofs.Common.{◌≡◌, ap, rules, subst, IfOk}
use Rattle.std.specs.Arc.{arc_value}
use Rattle.std.proofs.lemmas.Result.{IfOk-weaker}
use Rattle.http_service.specs.Endings.{IsServedTo}
use Rattle.http_exchange.specs.Keys.{key_in}
use Rattle.http_service.specs.declared.ending.Ending.{Ending}
use Rattle.http_service.specs.declared.connection.Offer.{Offer}
use Rattle.http_service.proofs.Crossing.{task_send}
use Rattle.http_service.proofs.serving.serve_until_ended.Goals as goal

pub admit_until-requires-send-F-Task : goal.admit_until-requires-send-F-Task
admit_until-requires-send-F-Task g c κs within = param_send 2 _
    (arg_send _ yes _ (task_send _ _ c.type_bounds.send-H c.type_bounds.sync-H c.type_bounds.send-R))

pub returns-clause-ok : goal.returns-clause-ok
returns-clause-ok g c =
    let is : c.deref-2.result.now ≡ arc_value c.args.ending.now = search rules in
    subst (λ (ending : Ending). IfOk c.served_by.result (IsServedTo c.args.requests ending.reason.id)) is
    (c.served_by.ensures.ok _ c.args.requests c.in_ok-let_in.ensures)

pub returns-clause-offer : goal.returns-clause-offer
returns-clause-offer g c =
    IfOk-weaker c.served_by.result _ _
    (λ served is. record {
      routes = ap (λ (offer : Offer). offer.set) is;
      access = ap (λ (offer : Offer). key_in offer.access.now) is;
    })
    (c.served_by.ensures.offer _ c.args.requests c.in_ok-let_in.ensures)
