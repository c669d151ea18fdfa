use Rattle.drill_picture.specs.Boards.{has_made}
use Rattle.drill_picture.proofs.made.Made.has.Goals as goal

pub returns : goal.returns
unfolding has_made
returns c = c.contains.ensures
