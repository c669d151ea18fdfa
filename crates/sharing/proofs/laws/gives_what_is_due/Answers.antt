use Rattle.sharing.proofs.Due.{all_due}
use Rattle.sharing.proofs.laws.gives_what_is_due.Goals as goal

pub returns : goal.returns
returns c = all_due
