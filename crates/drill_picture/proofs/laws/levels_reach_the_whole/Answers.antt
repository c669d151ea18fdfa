use Rattle.drill_picture.proofs.Adds.{levels_reach_the_whole}
use Rattle.drill_picture.proofs.laws.levels_reach_the_whole.Goals as goal

pub returns : goal.returns
returns c = levels_reach_the_whole
