use Rattle.std.proofs.lemmas.Result.{IfOk-weaker}
use Rattle.std.specs.String.{string_bytes}
use Rattle.drills.specs.Lines.{head_told, part_head}
use Rattle.drills.proofs.Said.{said}
use Rattle.drills.proofs.line_text.part_head_text.Goals as goal

pub returns : goal.returns
returns c = IfOk-weaker c.printed.result _ _ (λ text is. said (part_head (head_told c.args.head.now))
    (string_bytes text) _ c.in_ok-value.ensures.value c.in_ok-value.ensures.fits is) c.printed.ensures
