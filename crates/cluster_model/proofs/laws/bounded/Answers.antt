use Rattle.cluster_model.proofs.LivesBound.{lives_are_conserved}
use Rattle.cluster_model.proofs.laws.bounded.Goals as goal

pub returns : goal.returns
returns c = lives_are_conserved
