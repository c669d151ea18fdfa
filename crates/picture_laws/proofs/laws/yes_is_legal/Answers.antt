use Rattle.picture_laws.proofs.Final.{yes_is_legal}
use Rattle.picture_laws.proofs.laws.yes_is_legal.Goals as goal

pub returns : goal.returns
returns c = yes_is_legal
