-- What holds of the reports of every state.
use Rattle.std.specs.Prelude.{◌≡◌, ℕ, List, Some}
use Rattle.serde_json.specs.Read.{read}
use Rattle.operations.specs.Operations.{Operation}
use Rattle.replica_state.specs.States.{State}
use Rattle.replica_state.specs.Folds.{fold}
use Rattle.replica_state.specs.Knowledge.{KnowsAll}
use Rattle.report_text.specs.Lines.{report_lines_text}
use Rattle.report_text.specs.Json.{report_data, report_json_text}

-- two states have the same reports
abbrev pub HaveEqualReports : State → State → Type 0
HaveEqualReports v w = (nodes : ℕ) →
    (report_lines_text v nodes ≡ report_lines_text w nodes) × (report_json_text v nodes ≡ report_json_text w nodes)

abbrev pub EqualStatesEqualReports : Type 0
EqualStatesEqualReports = (v w : State) → v ≡ w → HaveEqualReports v w

-- sets that know the same operations have the same reports
abbrev pub SameKnownEqualReports : Type 0
SameKnownEqualReports = (a b : List Operation) → KnowsAll a b → KnowsAll b a → HaveEqualReports (fold a) (fold b)

-- whoever reads the JSON report has what it says
abbrev pub JsonIsRead : Type 0
JsonIsRead = (v : State) (nodes : ℕ) → read (report_json_text v nodes) ≡ Some (report_data v nodes)
