use Rattle.picture_laws.proofs.Final.{columns_tell_the_world}
use Rattle.picture_laws.proofs.laws.columns_tell_the_world.Goals as goal

pub returns : goal.returns
returns c = columns_tell_the_world
