use Rattle.actions.proofs.Copies.{copy_ties}
use Rattle.actions.proofs.name.NameHeld.copied.Goals as goal

pub returns : goal.returns
returns c = copy_ties (λ n. n) (λ n. n) c.copied.result c.args.self.now c.copied.ensures
