use Rattle.std.proofs.Common.{◌++◌, flat_map, string_bytes}
use Rattle.std.proofs.lemmas.Result.{IfOk-weaker}
use Rattle.stamp_register.specs.Keys.{key_value}
use Rattle.report_text.specs.Report.{keyed_row}
use Rattle.report_text.specs.Lines.{hits_line, point_line, term_line}
use Rattle.report_text.proofs.Walks.{and_then}
use Rattle.report_text.proofs.lines_report.push_point.Goals as goal

pub returns : goal.returns
returns g c =
    let row = keyed_row (g.R.Replica.state c.args.replica.now) c.args.nodes c.args.name.now (key_value c.args.key.now) in
    let old = string_bytes c.args.text.now in
    let point = point_line row.name row.stamp row.actions in
    let hits = hits_line row.hits row.total in
    IfOk-weaker c.push_terms.result _ _ (λ _ last. and_then old (point ++ hits) (flat_map term_line row.terms)
    (and_then old point hits c.in_ok-push_point_line.ensures c.in_ok-push_hits.ensures) last)
    c.push_terms.ensures
