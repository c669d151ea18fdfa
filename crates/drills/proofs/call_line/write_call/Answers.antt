use Rattle.std.proofs.Common.{ap, subst, ◌∙◌}
use Rattle.std.proofs.lemmas.Result.{IfOk-weaker}
use Rattle.serde_json.specs.View.{view}
use Rattle.packed_trace.specs.Packed.{seen_told}
use Rattle.drills.specs.Fits.{AskFits, ReplyFits}
use Rattle.drills.specs.Rows.{ask_data, reply_data, row_data, words_data}
use Rattle.drills.proofs.CallTexts.{entry_written, put_by}
use Rattle.drills.proofs.Plain.{ask_plain, reply_plain, words_plain}
use Rattle.drills.proofs.call_line.write_call.Goals as goal

pub returns : goal.returns
returns g c =
    let contents = g.W.Write.contents in
    let told = seen_told c.args.call in
    let o1 = contents c.write_all.new.self in
    let o2 = contents c.write_row.new.out in
    let o3 = contents c.write_all-2.new.self in
    let o4 = contents c.write_row-2.new.out in
    let o5 = contents c.write_all-3.new.self in
    let o6 = contents c.write_value.new.out in
    IfOk-weaker c.write_all-4.result _ _
    (λ _ last. entry_written (contents c.args.out.now) o1 o2 o3 o4 o5 o6 (contents c.write_all-4.new.self) told
    (record {
      ask = subst AskFits c.ask.ensures c.in_ok-ask_row.ensures.fits;
      words = c.in_ok-draws_value.ensures.fits;
      reply = subst ReplyFits c.reply.ensures c.in_ok-reply_row.ensures.fits;
    })
    c.in_ok-write_all.ensures.bytes
    (put_by o1 o2 (row_data c.in_ok-ask_row.field-0) (ask_data told.ask)
    (c.in_ok-ask_row.ensures.row ∙ ap ask_data c.ask.ensures) (ask_plain told.ask).floatless c.in_ok-write_row.ensures)
    c.in_ok-write_all-2.ensures.bytes
    (put_by o3 o4 (row_data c.in_ok-reply_row.field-0) (reply_data told.reply)
    (c.in_ok-reply_row.ensures.row ∙ ap reply_data c.reply.ensures) (reply_plain told.reply).floatless
    c.in_ok-write_row-2.ensures)
    c.in_ok-write_all-3.ensures.bytes
    (put_by o5 o6 (view c.in_ok-draws_value.field-0) (words_data told.words) c.in_ok-draws_value.ensures.value
    (words_plain told.words).floatless c.in_ok-write_value.ensures)
    last) c.write_all-4.ensures.bytes
