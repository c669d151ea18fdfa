use Rattle.std.proofs.Common.{append_assoc}
use Rattle.drill_picture.specs.Charts.{rights_text}
use Rattle.drill_picture.proofs.charts.push_rights.Goals as goal

pub returns : goal.returns
unfolding rights_text
returns c = simp append_assoc c.write.ensures.bytes
