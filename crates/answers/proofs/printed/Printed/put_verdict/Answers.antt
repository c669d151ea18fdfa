use Rattle.std.proofs.Common.{◌≤◌, ap, ◌∙◌, arith}
use Rattle.answers.specs.Printing.{Printing}
use Rattle.answers.proofs.Verdicts.{after_totals}
use Rattle.answers.proofs.printed.Printed.put_verdict.Goals as goal

pub returns-after-loop-total-clause-bytes : goal.returns-after-loop-total-clause-bytes
returns-after-loop-total-clause-bytes c =
    let put = c.in_ok-put-in-Ok.ensures in
    rw c.in-Ok.is (after_totals c.args.self.now.format c.loop-total.self.format c.in-Ok.found c.args.self.now.bytes
    c.loop-total.self.bytes _ c.deref-total-items.result.now c.loop-total.total-index
    (omega (arith, c.loop-total-test.false)) (c.loop-total.invariant.format ∙ ap (λ (p : Printing). p.format) put)
    c.deref-total-items.ensures.value (ap (λ (p : Printing). p.bytes) put) c.loop-total.invariant.bytes)
