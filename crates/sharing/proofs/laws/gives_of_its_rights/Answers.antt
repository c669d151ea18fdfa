use Rattle.sharing.proofs.Given.{of_its_rights}
use Rattle.sharing.proofs.laws.gives_of_its_rights.Goals as goal

pub returns : goal.returns
returns c = of_its_rights
