use Rattle.std.proofs.Common.{map, take}
use Rattle.stamp_register.specs.Keys.{key_value}
use Rattle.operations.specs.Operations.{Count, Execs}
use Rattle.delta_exchange.specs.Told.{HasLearned}
use Rattle.delta_exchange.proofs.learning.learn_execs.Given as goal

abbrev pub invariant-loop-term : goal.invariant-loop-term
invariant-loop-term g l = HasLearned (g.R.Replica.state l.initial.replica) (g.R.Replica.state l.replica)
    (map (λ c. Count (Execs l.entry.name (key_value l.entry.key) c.0 c.1) c.2) (take l.term-index l.entry.execs.items))
