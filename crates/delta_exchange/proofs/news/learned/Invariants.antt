use Rattle.std.proofs.Common.{map, take}
use Rattle.delta_exchange.specs.Told.{HasLearned}
use Rattle.delta_exchange.specs.News.{operation_of}
use Rattle.delta_exchange.proofs.news.learned.Given as goal

abbrev pub invariant-loop-told : goal.invariant-loop-told
invariant-loop-told g l = HasLearned (g.R.Replica.state l.initial.replica) (g.R.Replica.state l.replica)
    (map operation_of (take l.told-index l.news))
