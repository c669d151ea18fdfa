use Rattle.std.proofs.Common.{arith}
use Rattle.node_core.proofs.OneSpelling.{one_spelling}
use Rattle.node_core.proofs.laws.message_fixes_bytes.Goals as goal

pub returns : goal.returns
returns c = λ m.
    one_spelling c.args.nodes c.args.a.now c.args.b.now m (omega arith) (λ i. omega (arith, c.type_inv.a i))
    (λ i. omega (arith, c.type_inv.b i))
