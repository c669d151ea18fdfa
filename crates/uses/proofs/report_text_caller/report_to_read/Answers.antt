use Rattle.std.proofs.Common.{ap, ◌∙◌}
use Rattle.std.proofs.lemmas.Result.{IfOk-weaker}
use Rattle.serde_json.specs.Read.{read}
use Rattle.uses.proofs.report_text_caller.report_to_read.Goals as goal

pub returns : goal.returns
returns g c =
    let state = g.R.Replica.state c.args.replica.now in
    IfOk-weaker c.report_json.result _ _ (λ text says. ap read says ∙ c.json_is_read.ensures state c.args.nodes)
    c.report_json.ensures
