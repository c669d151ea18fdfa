use Rattle.std.proofs.Common.{ap}
use Rattle.std.specs.Cmp.Lexicographic.{slice_cmp}
use Rattle.std.specs.List.{list_any}
use Rattle.std.specs.Ordering.{is_eq, nat_cmp}
use Rattle.drill_picture.specs.Boards.{has_made}
use Rattle.drill_picture.proofs.made.Made.new.Goals as goal

pub returns : goal.returns
unfolding has_made
returns c = λ b. ap (λ ks. list_any (λ k. is_eq (slice_cmp nat_cmp b k.now)) ks) c.new.ensures.empty
