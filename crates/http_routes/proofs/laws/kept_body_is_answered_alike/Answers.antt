use Rattle.http_routes.proofs.KeptBodies.{kept_alike}
use Rattle.http_routes.proofs.laws.kept_body_is_answered_alike.Goals as goal

pub returns : goal.returns
returns c = kept_alike
