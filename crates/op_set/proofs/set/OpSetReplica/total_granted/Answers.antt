use Rattle.counters.specs.Sums.{node_numbers}
use Rattle.op_set.specs.Shown.{shown}
use Rattle.op_set.specs.SetOrder.{state_of}
use Rattle.op_set.proofs.Shown.{no_grants}
use Rattle.op_set.proofs.set.OpSetReplica.total_granted.Goals as goal

pub returns-in-None : goal.returns-in-None
unfolding state_of shown
returns-in-None c = (no_grants c.args.self.now.points c.args.name.now c.args.term c.in-None.ensures.value node_numbers)
