use Rattle.std.proofs.Common.{◌≡◌, false, sym, subst}
use Rattle.std.specs.Prelude.{OnOk}
use Rattle.std.proofs.lemmas.Result.{IfOk-weaker}
use Rattle.serde_json.specs.Written.{has_float}
use Rattle.drills.specs.declared.json_rows.Row.{Row}
use Rattle.drills.specs.Rows.{row_data}
use Rattle.drills.specs.Written.{WritesData}
use Rattle.drills.proofs.CallTexts.{deliver_row, message_row}
use Rattle.drills.proofs.call_line.write_row.Goals as goal

pub returns-in-Deliver : goal.returns-in-Deliver
returns-in-Deliver g c =
    let contents = g.W.Write.contents in
    let old = c.args.out.now in
    let new = c.write_bytes.new.out in
    subst (λ (r : Row). OnOk c.write_bytes.result (has_float (row_data r) ≡ false → WritesData contents old new (row_data r)))
    (sym c.in-Deliver.is)
    (IfOk-weaker c.write_bytes.result _ _
    (λ _ text plain. deliver_row (contents old) (contents new) c.in-Deliver.message.now c.write_bytes.ensures.fits text)
    c.write_bytes.ensures.text)

pub returns-in-Message : goal.returns-in-Message
returns-in-Message g c =
    let contents = g.W.Write.contents in
    let old = c.args.out.now in
    let new = c.write_bytes-in-Message.new.out in
    subst (λ (r : Row). OnOk c.write_bytes-in-Message.result
    (has_float (row_data r) ≡ false → WritesData contents old new (row_data r)))
    (sym c.in-Message.is)
    (IfOk-weaker c.write_bytes-in-Message.result _ _
    (λ _ text plain. message_row (contents old) (contents new) c.in-Message.message.now
    c.write_bytes-in-Message.ensures.fits text)
    c.write_bytes-in-Message.ensures.text)
