-- Bytes that are read as one message are the same bytes.
use Rattle.std.proofs.Common.{◌≡◌, ℕ, ◌≤◌, ◌^◌, List, Result, Ok, Err, refl, sym, ◌∙◌, ap}
use Rattle.refusals.proofs.StepLemmas.{ok_is}
use Rattle.message_format.specs.declared.fault.WireFault.{WireFault}
use Rattle.message_format.specs.Messages.{MessageValue, TellSame}
use Rattle.message_format.specs.Reading.{message_at}
use Rattle.message_format.proofs.Fields.{IsBytes}
use Rattle.message_format.proofs.EntriesAgain.{same_bytes}
use Rattle.node_calls.specs.Asks.{Message, message_of, read_of, message_read}

-- the message with its entries
with_entries : (read : Result MessageValue WireFault) (m : Message) → read_of read ≡ Ok m →
    (v : MessageValue) × (read ≡ Ok v) × (message_of v ≡ m)
with_entries (Ok v) m e = (v, refl, ok_is (message_of v) m e)
with_entries (Err fault) m e = absurd cc

tell_same : (v w : MessageValue) → message_of v ≡ message_of w → TellSame v w
tell_same v w e = record {
  from = ap (λ (m : Message). m.from) e;
  to = ap (λ (m : Message). m.to) e;
  base = ap (λ (m : Message). m.base) e;
  upto = ap (λ (m : Message). m.upto) e;
  ack = ap (λ (m : Message). m.ack) e;
  operations = ap (λ (m : Message). m.ops) e;
}

pub one_spelling : (nodes : ℕ) (a b : List ℕ) (m : Message) → nodes ≤ 2 ^ 8 → IsBytes a → IsBytes b →
    message_read nodes a ≡ Ok m → message_read nodes b ≡ Ok m → a ≡ b
unfolding message_read
one_spelling nodes a b m few fits others d e =
    let v = with_entries (message_at nodes a) m d in
    let w = with_entries (message_at nodes b) m e in
    same_bytes nodes a b v.0 w.0 few fits others v.1 w.1 (tell_same v.0 w.0 (v.2 ∙ sym w.2))
