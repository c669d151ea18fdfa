use Rattle.std.proofs.Common.{subst}
use Rattle.http_routes.specs.Replies.{http_value}
use Rattle.http_routes.specs.Requests.{call}
use Rattle.http_serve.specs.Recorded.{IsServedRecording}
use Rattle.http_serve.proofs.handler.recording.RecordingHandler.call_of.Goals as goal

pub returns-in-Ok : goal.returns-in-Ok
returns-in-Ok g c =
    subst (λ asked. IsServedRecording g.L.Label.config g.L.Label.seed g.L.Label.keeps g.L.Ledger.parts (call asked)
    (http_value c.call.result)) c.in-Ok.ensures c.call.ensures
