use Rattle.replica_state.proofs.Changes.{changes_is_change}
use Rattle.replica_state.proofs.Knowing.{knows_as_set}
use Rattle.replica_state.proofs.laws.changed.Goals as goal

pub returns-clause-knows : goal.returns-clause-knows
returns-clause-knows c = knows_as_set

pub returns-clause-changes : goal.returns-clause-changes
returns-clause-changes c = changes_is_change
