use Rattle.std.proofs.Common.{append_assoc}
use Rattle.drill_picture.specs.Picture.{size_text}
use Rattle.drill_picture.proofs.heading.push_size.Goals as goal

pub returns : goal.returns
unfolding size_text
returns c = simp append_assoc c.write.ensures.bytes
