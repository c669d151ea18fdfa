use Rattle.std.proofs.lemmas.Result.{IfOk-weaker}
use Rattle.std.proofs.Common.{false}
use Rattle.std.specs.String.{string_bytes}
use Rattle.drills.specs.Lines.{head}
use Rattle.drills.proofs.Said.{said}
use Rattle.drills.proofs.line_text.head_text.Goals as goal

pub returns : goal.returns
returns c = IfOk-weaker c.printed.result _ _
    (λ text is. said (head false) (string_bytes text) _ c.in_ok-value.ensures tt is) c.printed.ensures
