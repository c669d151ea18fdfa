use Rattle.std.proofs.Common.{[], ◌∷◌}
use Rattle.std.proofs.lemmas.Result.{IfOk-weaker}
use Rattle.streams.proofs.Flows.{Appends-then}
use Rattle.drills.specs.Drills.{newline}
use Rattle.drills.specs.Lines.{line_text, receipt, receipt_told}
use Rattle.drills.proofs.call_line.write_receipt.Goals as goal

pub returns : goal.returns
returns g c =
    let contents = g.W.Write.contents in
    let line = line_text (receipt (receipt_told c.args.receipt.now)) in
    let said = c.in_ok-write_told.ensures in
    IfOk-weaker c.write_all.result _ _
    (λ _ more. (
      Appends-then (contents c.args.out.now) (contents c.write_told.new.out) (contents c.write_all.new.self) line
          (newline ∷ []) said.0 more,
      said.1,
    )) c.write_all.ensures.bytes
