use Rattle.std.proofs.Common.{length, arith, ap, below_more}
use Rattle.audit.proofs.Runs.{trace_read}
use Rattle.audit.proofs.placing.first_left.Goals as goal

pub returns-then-positions-node-clause-left : goal.returns-then-positions-node-clause-left
returns-then-positions-node-clause-left c =
    let same = ap (λ t. length t) (trace_read c.args.traces.now c.loop-node.node _ c.loop-node-test.true
    c.index-traces-node.is) in
    (c.loop-node-test.true, omega (arith, same, c.len.ensures, c.if-positions-node.true))

pub loop-node-preserved : goal.loop-node-preserved
loop-node-preserved c =
    let same = ap (λ t. length t) (trace_read c.args.traces.now c.loop-node.node _ c.loop-node-test.true
    c.index-traces-node.is) in
    below_more _ _ c.loop-node.invariant (omega (arith, same, c.len.ensures, c.if-positions-node.false))
