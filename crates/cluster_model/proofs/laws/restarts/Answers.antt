use Rattle.cluster_model.proofs.LivesBound.{restart_is_taken}
use Rattle.cluster_model.proofs.Restarts.{schedules_are_lives, restart_goes_on, whole_restart_goes_on}
use Rattle.cluster_model.proofs.laws.restarts.Goals as goal

pub returns-clause-none : goal.returns-clause-none
returns-clause-none c = schedules_are_lives

pub returns-clause-some : goal.returns-clause-some
returns-clause-some c = restart_goes_on

pub returns-clause-whole : goal.returns-clause-whole
returns-clause-whole c = whole_restart_goes_on

pub returns-clause-taken : goal.returns-clause-taken
returns-clause-taken c = restart_is_taken
