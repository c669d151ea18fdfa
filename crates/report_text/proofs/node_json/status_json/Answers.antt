use Rattle.std.proofs.Common.{ap, ◌∙◌}
use Rattle.std.specs.Prelude.{option_map}
use Rattle.std.proofs.lemmas.Result.{IfOk-weaker}
use Rattle.serde_json.specs.Written.{compact_text, has_float}
use Rattle.report_text.proofs.Plain.{status_floatless}
use Rattle.report_text.proofs.node_json.status_json.Goals as goal

pub returns : goal.returns
returns g c =
    let same = c.in_ok-status_value.ensures in
    let peers = option_map (λ rows. rows.now) c.args.peers in
    let none = ap has_float same ∙ status_floatless c.args.head (g.R.Replica.state c.args.replica.now) peers in
    IfOk-weaker c.to_string.result _ _ (λ s h. h none ∙ ap compact_text same) c.to_string.ensures.text
