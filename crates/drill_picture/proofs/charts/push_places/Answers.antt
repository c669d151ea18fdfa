use Rattle.std.proofs.Common.{append_assoc}
use Rattle.drill_picture.specs.Charts.{places_text}
use Rattle.drill_picture.proofs.charts.push_places.Goals as goal

pub returns : goal.returns
unfolding places_text
returns c = simp append_assoc c.writeln.ensures.bytes
