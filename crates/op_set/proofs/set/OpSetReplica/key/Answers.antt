use Rattle.std.proofs.Common.{sym}
use Rattle.op_set.specs.Shown.{shown}
use Rattle.op_set.specs.SetOrder.{state_of}
use Rattle.op_set.proofs.Shown.{names_kept}
use Rattle.op_set.proofs.set.OpSetReplica.key.Goals as goal

pub returns-in-Some-clause-named : goal.returns-in-Some-clause-named
unfolding state_of shown
returns-in-Some-clause-named c = (λ _. names_kept c.args.self.now.points c.args.name.now c.in-Some.point.now
    c.len.ensures.ordered (sym c.in-Some.ensures.value))
