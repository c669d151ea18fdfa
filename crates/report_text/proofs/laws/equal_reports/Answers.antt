use Rattle.std.proofs.Common.{ap}
use Rattle.replica_state.proofs.KnownSets.{same_fold}
use Rattle.report_text.specs.Lines.{report_lines_text}
use Rattle.report_text.specs.Json.{report_json_text}
use Rattle.report_text.proofs.laws.equal_reports.Goals as goal

pub returns-clause-states : goal.returns-clause-states
returns-clause-states c = λ v w same nodes. (
  ap (λ u. report_lines_text u nodes) same,
  ap (λ u. report_json_text u nodes) same,
)

pub returns-clause-known : goal.returns-clause-known
returns-clause-known c = λ a b known back nodes.
    let same = same_fold a b known back in
    (ap (λ u. report_lines_text u nodes) same, ap (λ u. report_json_text u nodes) same)
