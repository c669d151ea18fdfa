use Rattle.std.proofs.Common.{refl}
use Rattle.http_routes.specs.Paths.{target_of}
use Rattle.http_routes.proofs.laws.posts_arrive.Goals as goal

pub returns-clause-gossip : goal.returns-clause-gossip
unfolding target_of
returns-clause-gossip c = refl

pub returns-clause-hello : goal.returns-clause-hello
unfolding target_of
returns-clause-hello c = refl
