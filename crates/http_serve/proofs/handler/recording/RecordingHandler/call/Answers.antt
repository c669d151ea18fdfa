use Rattle.http_routes.specs.Replies.{http_value}
use Rattle.node_calls.specs.Told.{ask_told}
use Rattle.http_serve.proofs.Recorded.{as_recording}
use Rattle.http_serve.proofs.handler.recording.RecordingHandler.call.Goals as goal

pub returns : goal.returns
returns g c =
    as_recording _ _ _ _ _ _ _ g.L.Label.config g.L.Label.seed g.L.Label.keeps g.L.Ledger.parts (ask_told c.args.ask)
    (http_value c.call_from.result) c.call_from.ensures
