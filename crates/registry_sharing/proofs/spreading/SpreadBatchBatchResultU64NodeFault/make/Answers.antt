use Rattle.registry_sharing.proofs.MadeBatches.{spread_goes}
use Rattle.registry_sharing.proofs.spreading.SpreadBatchBatchResultU64NodeFault.make.Goals as goal

pub returns-clause-goes_on : goal.returns-clause-goes_on
returns-clause-goes_on c =
    spread_goes c.args.node.now c.args.self.now.name.now c.spread.new.node c.spread.result c.spread.ensures.made
    c.spread.ensures.refused
