use Rattle.http_routes.proofs.Spelling.{path_of_target}
use Rattle.http_routes.proofs.laws.path_spells_target.Goals as goal

pub returns : goal.returns
returns c = path_of_target
