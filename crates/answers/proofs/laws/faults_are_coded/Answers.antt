use Rattle.answers.proofs.Coded.{coded}
use Rattle.answers.proofs.laws.faults_are_coded.Goals as goal

pub returns : goal.returns
returns c = coded
