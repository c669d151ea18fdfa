use Rattle.std.proofs.Common.{sym, subst}
use Rattle.actions.specs.Spelled.{IsSpelled}
use Rattle.actions.proofs.actions.Actions.copied.Goals as goal

pub invariant_of-result : goal.invariant_of-result
invariant_of-result c = subst IsSpelled (sym c.in_ok-spelled.ensures) c.self.invariant
