use Rattle.std.proofs.Common.{arith}
use Rattle.cluster_model.proofs.LegalEmits.{legal_emit}
use Rattle.cluster_model.proofs.laws.legal_emits.Goals as goal

pub returns : goal.returns
returns c = λ k to nodes. legal_emit k to c.args.bytes.now (omega (arith, nodes))
    (λ i. omega (arith, c.type_inv.bytes i))
