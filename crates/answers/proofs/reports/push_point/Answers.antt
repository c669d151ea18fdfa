use Rattle.std.proofs.Common.{◌++◌, flat_map}
use Rattle.std.proofs.lemmas.Result.{IfOk-weaker}
use Rattle.stamp_register.specs.Keys.{key_value}
use Rattle.report_text.specs.Report.{keyed_row}
use Rattle.report_text.proofs.Walks.{and_then}
use Rattle.answers.specs.Objects.{hits_object, point_object, term_object}
use Rattle.answers.proofs.reports.push_point.Goals as goal

pub returns : goal.returns
returns g c =
    let row = keyed_row (g.R.Replica.state c.args.replica.now) c.args.nodes c.args.name.now (key_value c.args.key.now) in
    let old = c.args.out.now.items in
    let point = point_object row.name row.stamp row.actions in
    let hits = hits_object row.hits row.total in
    IfOk-weaker c.push_terms.result _ _ (λ _ last. and_then old (point ++ hits) (flat_map term_object row.terms)
    (and_then old point hits c.in_ok-push_point_object.ensures c.in_ok-push_hits.ensures) last)
    c.push_terms.ensures
