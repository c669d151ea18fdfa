use Rattle.cluster_model.proofs.Conserved.{conserved}
use Rattle.cluster_model.proofs.Replies.{acts_are_issued}
use Rattle.cluster_model.proofs.Stamps.{stamp_once, stamp_is_one_key}
use Rattle.cluster_model.proofs.laws.escrow.Goals as goal

pub returns-clause-stamp : goal.returns-clause-stamp
returns-clause-stamp c = stamp_once

pub returns-clause-key : goal.returns-clause-key
returns-clause-key c = stamp_is_one_key

pub returns-clause-count : goal.returns-clause-count
returns-clause-count c = conserved

pub returns-clause-told : goal.returns-clause-told
returns-clause-told c = acts_are_issued
