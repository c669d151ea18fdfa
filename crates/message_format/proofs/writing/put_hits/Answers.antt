use Rattle.message_format.specs.Spelling.{hit_bytes}
use Rattle.message_format.proofs.Written.{written_more}
use Rattle.message_format.proofs.writing.put_hits.Goals as goal

pub loop-node-preserved : goal.loop-node-preserved
loop-node-preserved c = written_more hit_bytes c.args.hits.now c.loop-node.node-index (0, 0) _ _ _ c.loop-node-test.true c.loop-node.invariant c.in_ok-put_cell.ensures
