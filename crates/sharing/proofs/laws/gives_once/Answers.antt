use Rattle.sharing.proofs.Once.{point_once}
use Rattle.sharing.proofs.laws.gives_once.Goals as goal

pub returns : goal.returns
returns c = point_once
