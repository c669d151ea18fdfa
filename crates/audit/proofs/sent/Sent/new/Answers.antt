use Rattle.std.proofs.Common.{ap}
use Rattle.std.specs.Cmp.Lexicographic.{slice_cmp}
use Rattle.std.specs.List.{list_any}
use Rattle.std.specs.Ordering.{is_eq, nat_cmp}
use Rattle.audit.specs.Boards.{has_sent}
use Rattle.audit.proofs.sent.Sent.new.Goals as goal

pub returns : goal.returns
unfolding has_sent
returns c = λ b. ap (λ ks. list_any (λ k. is_eq (slice_cmp nat_cmp b k.now)) ks) c.new.ensures.empty
