use Rattle.std.specs.Prelude.{option_map}
use Rattle.http_routes.specs.Replies.{http_value}
use Rattle.http_serve.proofs.Recorded.{as_spread}
use Rattle.http_serve.proofs.handler.recording.RecordingHandler.spread.Goals as goal

pub returns : goal.returns
returns g c =
    as_spread _ g.L.Label.config g.L.Label.seed g.L.Label.keeps g.L.Ledger.parts _ _ c.args.name.now
    (option_map (λ t. t.now) c.args.text) (http_value c.spread_from.result) c.spread_from.ensures
