use Rattle.actions.specs.Canonical.{canonical}
use Rattle.actions.proofs.Copies.{copy_ties}
use Rattle.actions.proofs.actions.ActionsHeld.copied.Goals as goal

pub returns : goal.returns
returns c = copy_ties (λ a. a) canonical c.copied.result c.args.self.now c.copied.ensures
