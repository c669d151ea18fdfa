use Rattle.std.proofs.lemmas.Result.{IfOk-weaker}
use Rattle.std.proofs.Common.{None}
use Rattle.std.specs.String.{string_bytes}
use Rattle.drills.specs.Lines.{trace}
use Rattle.drills.proofs.Said.{said}
use Rattle.drills.proofs.line_text.trace_text.Goals as goal

pub returns : goal.returns
returns c = IfOk-weaker c.printed.result _ _ (λ text is. said (trace c.args.node None) (string_bytes text) _
    c.in_ok-value.ensures (c.ranges.node.fits, tt) is) c.printed.ensures
