use Rattle.drill_picture.proofs.Adds.{columns_add_up}
use Rattle.drill_picture.proofs.laws.columns_add_up.Goals as goal

pub returns : goal.returns
returns c = columns_add_up
