use Rattle.cluster_model.proofs.KnownVersions.{known_is_below, known_is_same}
use Rattle.cluster_model.proofs.SeesWhole.{sees_whole}
use Rattle.cluster_model.proofs.Versions.{marked}
use Rattle.cluster_model.proofs.laws.known_versions.Goals as goal

pub returns-clause-reached : goal.returns-clause-reached
returns-clause-reached r c es s i j = (marked c es s).known j i

pub returns-clause-below : goal.returns-clause-below
returns-clause-below r = known_is_below

pub returns-clause-same : goal.returns-clause-same
returns-clause-same r = known_is_same

pub returns-clause-whole : goal.returns-clause-whole
returns-clause-whole r c es s i j v l = sees_whole c es s i v l j
