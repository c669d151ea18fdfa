use Rattle.cluster_model.proofs.Lives.{free_lives, delta_lives, delta_lives_are_lives, answered_is_kept}
use Rattle.cluster_model.proofs.laws.lives.Goals as goal

pub returns-clause-any : goal.returns-clause-any
returns-clause-any c = free_lives

pub returns-clause-deltas : goal.returns-clause-deltas
returns-clause-deltas c = delta_lives

pub returns-clause-also : goal.returns-clause-also
returns-clause-also c = delta_lives_are_lives

pub returns-clause-answered : goal.returns-clause-answered
returns-clause-answered c = answered_is_kept
