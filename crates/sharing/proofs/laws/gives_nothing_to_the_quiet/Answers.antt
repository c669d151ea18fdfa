use Rattle.sharing.proofs.Given.{nothing_to_the_quiet}
use Rattle.sharing.proofs.laws.gives_nothing_to_the_quiet.Goals as goal

pub returns : goal.returns
returns c = nothing_to_the_quiet
