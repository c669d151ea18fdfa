use Rattle.node_sharing.specs.Made.{shifts_due}
use Rattle.registry_sharing.proofs.MadeBatches.{shifts_go}
use Rattle.registry_sharing.proofs.round.SharingBatchResultUsizeNodeFault.make.Goals as goal

pub returns-clause-goes_on : goal.returns-clause-goes_on
returns-clause-goes_on c =
    shifts_go c.args.node.now (shifts_due c.args.node.now c.self.inside.memory) c.share.new.node c.share.result
    c.share.ensures.made c.share.ensures.refused
