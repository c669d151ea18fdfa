use Rattle.http_routes.specs.Replies.{http_value}
use Rattle.part_keeper.specs.Outs.{out_of, seat_of, written_of}
use Rattle.http_serve.proofs.Recorded.{written_by}
use Rattle.http_serve.proofs.handler.recording.RecordingHandler.call_from.Goals as goal

pub returns : goal.returns
returns g c =
    let old = c.args.recording.now in
    let new = c.submit-made.new.self in
    let made = c.submit-made.ensures in
    written_by g.W.Write.contents (out_of old) (out_of new) (written_of old) (written_of new) (seat_of old)
    (seat_of new) g.L.Label.config g.L.Label.seed g.L.Label.keeps g.L.Ledger.parts _ c.args.ask
    (http_value c.told_of_call.result) c.submit-made.result made.answered made.journal made.counted made.unanswered
    made.unmade c.told_of_call.ensures.made c.told_of_call.ensures.fault
