use Rattle.registry_sharing.proofs.MadeBatches.{set_spread_goes}
use Rattle.test_cluster.proofs.tests.batches.SettingBatchResultStampNodeFault.make.Goals as goal

pub returns-clause-goes_on : goal.returns-clause-goes_on
returns-clause-goes_on c =
    set_spread_goes c.args.node.now c.args.self.now.name.now c.args.self.now.text.now c.set_spread.new.node
    c.set_spread.result c.set_spread.ensures.made c.set_spread.ensures.refused
