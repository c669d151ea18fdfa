use Rattle.std.proofs.Common.{subst, ap, ◌∙◌}
use Rattle.http_routes.specs.declared.table.RouteSet.TheVariants.{Cluster}
use Rattle.http_routes.specs.Asked.{asked_of}
use Rattle.node_for_c.specs.Cluster.{IsAnsweredAs}
use Rattle.node_for_c.proofs.registry.Registry.answer_at.Goals as goal

pub returns-clause-ok : goal.returns-clause-ok
returns-clause-ok c =
    let asked = c.asked-asked.ensures
    ∙ ap (λ m. asked_of Cluster m c.in-Ok-from_utf8.path.now) c.in-Ok.ensures.cases.0
    ∙ ap (λ p. asked_of Cluster c.args.method.now p) c.in-Ok-from_utf8.ensures.cases.0 in
    subst (λ a. IsAnsweredAs a c.args.body.now c.args.now c.answer_known.result c.args.self.now c.answer_known.new.self)
    asked c.answer_known.ensures.told
