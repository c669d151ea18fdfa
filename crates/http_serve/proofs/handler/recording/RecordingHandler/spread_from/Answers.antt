use Rattle.std.specs.Prelude.{option_map}
use Rattle.part_keeper.specs.Outs.{out_of, seat_of, written_of}
use Rattle.http_serve.specs.Spreads.{spread_of}
use Rattle.http_serve.proofs.Recorded.{spread_by}
use Rattle.http_serve.proofs.handler.recording.RecordingHandler.spread_from.Goals as goal

pub returns : goal.returns
returns g c =
    let old = c.args.recording.now in
    let new = c.make_batch-made.new.self in
    let made = c.make_batch-made.ensures in
    spread_by g.W.Write.contents (out_of old) (out_of new) (written_of old) (written_of new) (seat_of old)
    (seat_of new) g.L.Label.config g.L.Label.seed g.L.Label.keeps g.L.Ledger.parts _
    (spread_of c.args.name.now (option_map (λ t. t.now) c.args.text)) c.make_batch-made.result c.told_of_batch.result
    made.made made.journal made.only made.unmade c.told_of_batch.ensures.made c.told_of_batch.ensures.fault
