use Rattle.message_format.specs.Spelling.{exec_bytes}
use Rattle.message_format.proofs.Written.{written_more}
use Rattle.message_format.proofs.writing.put_execs.Goals as goal

pub loop-term-preserved : goal.loop-term-preserved
loop-term-preserved c = written_more exec_bytes c.args.execs.now c.loop-term.term-index (0, 0, 0) _ _ _ c.loop-term-test.true c.loop-term.invariant c.in_ok-put_cell.ensures
