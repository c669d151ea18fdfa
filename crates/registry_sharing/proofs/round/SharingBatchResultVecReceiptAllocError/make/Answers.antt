use Rattle.std.proofs.Common.{arith}
use Rattle.node_sharing.specs.Made.{shifts_due}
use Rattle.registry_sharing.proofs.MadeBatches.{shifts_go}
use Rattle.registry_sharing.proofs.Receipted.{shares_add}
use Rattle.registry_sharing.proofs.round.SharingBatchResultVecReceiptAllocError.make.Goals as goal

pub returns-in-Err-OutOfMemory-clause-goes_on : goal.returns-in-Err-OutOfMemory-clause-goes_on
returns-in-Err-OutOfMemory-clause-goes_on c =
    shifts_go c.args.node.now (shifts_due c.args.node.now c.self.inside.memory) c.share-shared.new.node
    c.share-shared.result c.share-shared.ensures.made c.share-shared.ensures.refused

pub receipts_from-requires-clause-kept : goal.receipts_from-requires-clause-kept
receipts_from-requires-clause-kept c =
    let adds = shares_add c.args.node.now (shifts_due c.args.node.now c.self.inside.memory) c.share-shared.new.node
    c.share-shared.result c.share-shared.ensures.made c.share-shared.ensures.refused in
    omega (arith, adds.0, c.from.ensures.from, c.from.ensures.within, c.calls-before.ensures)

pub receipts_from-requires-clause-there : goal.receipts_from-requires-clause-there
receipts_from-requires-clause-there c =
    let adds = shares_add c.args.node.now (shifts_due c.args.node.now c.self.inside.memory) c.share-shared.new.node
    c.share-shared.result c.share-shared.ensures.made c.share-shared.ensures.refused in
    omega (arith, adds.1, c.calls-before.ensures)

pub returns-clause-goes_on : goal.returns-clause-goes_on
returns-clause-goes_on c =
    shifts_go c.args.node.now (shifts_due c.args.node.now c.self.inside.memory) c.share-shared.new.node
    c.share-shared.result c.share-shared.ensures.made c.share-shared.ensures.refused
