use Rattle.std.proofs.Common.{◌≡◌}
use Rattle.node_steps.proofs.Overspent.{clock_upto}
use Rattle.node_steps.proofs.delivery.latest_clock.Given as goal

abbrev pub invariant-loop-entry : goal.invariant-loop-entry
invariant-loop-entry l = l.clock ≡ clock_upto l.entries l.entry-index
