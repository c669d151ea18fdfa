use Rattle.node_core.proofs.RepliedDelta.{delta_bytes}
use Rattle.cluster_model.proofs.Emissions.{delta_is_emission}
use Rattle.cluster_model.proofs.laws.emitted.Goals as goal

pub returns-clause-allowed : goal.returns-clause-allowed
returns-clause-allowed r = delta_is_emission

pub returns-clause-one : goal.returns-clause-one
returns-clause-one r = delta_bytes
