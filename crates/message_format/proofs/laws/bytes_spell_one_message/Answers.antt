use Rattle.std.proofs.Common.{◌≡◌, ◌^◌, ℕ, List, Ok, sym, ◌∙◌, arith}
use Rattle.message_format.specs.Messages.{MessageValue}
use Rattle.message_format.specs.Spelling.{SpellsMessage}
use Rattle.message_format.specs.Reading.{message_at}
use Rattle.refusals.proofs.StepLemmas.{ok_is}
use Rattle.message_format.proofs.MessageLemmas.{message_again}
use Rattle.message_format.proofs.WiderLemmas.{message_widens}
use Rattle.message_format.proofs.laws.bytes_spell_one_message.Goals as goal

read_with_most_nodes : (nodes : ℕ) (bytes : List ℕ) (m : MessageValue) → SpellsMessage nodes bytes m →
    message_at (2 ^ 8) bytes ≡ Ok m
read_with_most_nodes nodes bytes m h =
    message_again (2 ^ 8) bytes m (message_widens nodes (2 ^ 8) h.0.few_nodes m (omega arith) h.0, h.1, h.2)

pub returns : goal.returns
returns c = λ nodes others bytes m n h k.
    ok_is m n (sym (read_with_most_nodes nodes bytes m h) ∙ read_with_most_nodes others bytes n k)
