use Rattle.report_text.proofs.Plain.{report_read}
use Rattle.report_text.proofs.laws.json_is_read.Goals as goal

pub returns : goal.returns
returns c = report_read
