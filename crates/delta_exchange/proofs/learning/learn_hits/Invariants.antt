use Rattle.std.proofs.Common.{map, take}
use Rattle.operations.specs.Operations.{Count, Hits}
use Rattle.delta_exchange.specs.Told.{HasLearned}
use Rattle.delta_exchange.proofs.learning.learn_hits.Given as goal

abbrev pub invariant-loop-node : goal.invariant-loop-node
invariant-loop-node g l = HasLearned (g.R.Replica.state l.initial.replica) (g.R.Replica.state l.replica)
    (map (λ c. Count (Hits l.entry.name c.0) c.1) (take l.node-index l.entry.hits.items))
