use Rattle.std.proofs.Common.{arith}
use Rattle.message_format.proofs.EntriesAgain.{same_message, same_bytes}
use Rattle.message_format.proofs.laws.told_operations_fix_bytes.Goals as goal

pub returns-clause-message : goal.returns-clause-message
returns-clause-message c = same_message

pub returns-clause-bytes : goal.returns-clause-bytes
returns-clause-bytes c = λ m n.
    same_bytes c.args.nodes c.args.a.now c.args.b.now m n (omega arith) (λ i. omega (arith, c.type_inv.a i))
    (λ i. omega (arith, c.type_inv.b i))
