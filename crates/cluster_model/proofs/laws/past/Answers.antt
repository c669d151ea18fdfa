use Rattle.node_core.proofs.Pasts.{has_history, past_stays}
use Rattle.cluster_model.proofs.KnownVersions.{past_was}
use Rattle.cluster_model.proofs.laws.past.Goals as goal

pub returns-clause-begins : goal.returns-clause-begins
returns-clause-begins r i trace = (has_history i trace).first

pub returns-clause-present : goal.returns-clause-present
returns-clause-present r i trace = (has_history i trace).last

pub returns-clause-stays : goal.returns-clause-stays
returns-clause-stays r = past_stays

pub returns-clause-world : goal.returns-clause-world
returns-clause-world r = past_was
