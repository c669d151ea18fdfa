use Rattle.std.proofs.Common.{length, arith, ap, below_more}
use Rattle.audit.proofs.Runs.{trace_read}
use Rattle.audit.proofs.receipts.all_present.Goals as goal

pub returns-then-not-node_present-clause-missing : goal.returns-then-not-node_present-clause-missing
returns-then-not-node_present-clause-missing c =
    let same = ap (λ t. length t) (trace_read c.args.traces.now c.loop-node.node _ c.loop-node-test.true
    c.index-traces-node.is) in
    let missing = c.if-not-node_present.ensures.missing in
    (c.loop-node.node, missing.0, omega (arith, missing.1, same, c.len.ensures), missing.2)

pub loop-node-preserved : goal.loop-node-preserved
loop-node-preserved c =
    let same = ap (λ t. length t) (trace_read c.args.traces.now c.loop-node.node _ c.loop-node-test.true
    c.index-traces-node.is) in
    below_more _ _ c.loop-node.invariant (λ i inside. c.if-not-node_present.ensures.all i
    (omega (arith, inside, same, c.len.ensures)))

pub overflow_cast-len : goal.overflow_cast-len
overflow_cast-len c =
    let same = ap (λ t. length t) (trace_read c.args.traces.now c.loop-node.node _ c.loop-node-test.true
    c.index-traces-node.is) in
    let short = c.requires.short c.loop-node.node in
    omega (arith, same, c.len.ensures, short)
