use Rattle.std.proofs.Common.{arith}
use Rattle.node_core.proofs.Repeated.{next_tells}
use Rattle.node_core.proofs.node.repeat.emit_tells.Goals as goal

pub returns : goal.returns
returns c = λ k to words nodes next. next_tells k to words c.args.bytes.now (omega (arith, nodes))
    (λ i. omega (arith, c.type_inv.bytes i)) next
