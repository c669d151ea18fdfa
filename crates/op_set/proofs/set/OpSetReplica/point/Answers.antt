use Rattle.std.proofs.Common.{◌∙◌}
use Rattle.op_set.specs.SetOrder.{state_of}
use Rattle.op_set.proofs.Shown.{kept_is_shown}
use Rattle.op_set.proofs.set.OpSetReplica.point.Goals as goal

pub returns : goal.returns
unfolding state_of
returns c = c.new.ensures ∙ kept_is_shown c.args.self.now.points c.args.name.now c.get.result c.get.ensures.value
