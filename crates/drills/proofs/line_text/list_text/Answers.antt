use Rattle.std.proofs.lemmas.Result.{IfOk-weaker}
use Rattle.std.proofs.Common.{None}
use Rattle.std.specs.String.{string_bytes}
use Rattle.drills.specs.Lines.{list}
use Rattle.drills.proofs.Said.{said}
use Rattle.drills.proofs.line_text.list_text.Goals as goal

pub returns : goal.returns
returns c = IfOk-weaker c.printed.result _ _ (λ text is. said (list c.args.number None) (string_bytes text) _
    c.in_ok-value.ensures (c.ranges.number.fits, tt) is) c.printed.ensures
