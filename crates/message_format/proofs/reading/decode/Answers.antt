use Rattle.std.proofs.Common.{◌≤◌, ◌^◌, List, ℕ, Result, Ok, Err, subst, arith}
use Rattle.std.specs.Prelude.{IfOk}
use Rattle.message_format.specs.declared.fault.WireFault.{WireFault}
use Rattle.message_format.specs.declared.message.Message.{Message}
use Rattle.message_format.specs.Messages.{message_value}
use Rattle.message_format.specs.Spelling.{SpellsMessage}
use Rattle.message_format.specs.Reading.{Gives, message_at}
use Rattle.message_format.proofs.Fields.{IsBytes}
use Rattle.message_format.proofs.MessageLemmas.{message_takes, message_again}
use Rattle.message_format.proofs.reading.decode.Goals as goal

is_found : (nodes : ℕ) (bytes : List ℕ) (r : Result Message WireFault) → nodes ≤ 2 ^ 8 → IsBytes bytes →
    Gives message_value r (message_at nodes bytes)
    → IfOk r (λ m. SpellsMessage nodes bytes (message_value m))
is_found nodes bytes (Ok m) few fits given = message_takes nodes bytes (message_value m) few fits given
is_found nodes bytes (Err e) few fits given = tt

pub returns-clause-found : goal.returns-clause-found
returns-clause-found c =
    is_found c.args.nodes c.args.bytes.now c.read_message.result (omega arith) (λ i. omega (arith, c.type_inv.bytes i))
    c.read_message.ensures.exact

pub returns-clause-only : goal.returns-clause-only
returns-clause-only c = λ m h.
    subst (λ read. Gives message_value c.read_message.result read) (message_again c.args.nodes c.args.bytes.now m h)
    c.read_message.ensures.exact
