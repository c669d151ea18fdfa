-- Bytes that tell what differs are read as the message that they spell, and this is the reply of its emit. They are
-- determined.
use Rattle.std.proofs.Common.{◌≡◌, ℕ, List, [], Ok, sym, ◌∙◌, ap, subst}
use Rattle.replica_state.specs.Deltas.{IsDelta}
use Rattle.message_format.specs.Messages.{operations_in}
use Rattle.message_format.specs.Spelling.{message_bytes}
use Rattle.message_format.proofs.MessageLemmas.{message_again}
use Rattle.message_format.proofs.OneMessage.{one_message}
use Rattle.node_calls.specs.declared.reply.Reply.{Reply}
use Rattle.node_calls.specs.declared.reply.Reply.TheVariants as replies
use Rattle.node_calls.specs.Told.{AskTold, reply_told}
use Rattle.node_calls.specs.Told as told
use Rattle.node_calls.specs.Asks.{Message, Versions, IsEmitted, asked_from, message_of, read_of, message_read, emit_asked, emit_of}
use Rattle.node_core.specs.Steps.{message_to}
use Rattle.node_core.specs.Traces.{Kept, node_of, state_known, reply_to, emission_of, SendsDelta}
use Rattle.node_core.specs.Deliveries.{TellsDelta, versions_in}
use Rattle.node_core.specs.Applied.{TellsIfEmit}

module _ (k : Kept) (to : ℕ) (bytes : List ℕ) (told : TellsDelta k to bytes) where
  pub delta_read : message_read k.config.nodes bytes ≡ Ok (message_of told.message)
  unfolding message_read
  delta_read = ap read_of (message_again k.config.nodes bytes told.message told.spelled)

  -- the message is that of an emit with these versions and operations
  pub delta_message : message_of told.message ≡ message_to k.config.node to (versions_in told.message)
      (operations_in told.message)
  delta_message = λ i. record {
    from = told.sender i;
    to = told.receiver i;
    base = told.message.base;
    upto = told.message.upto;
    ack = told.message.ack;
    ops = operations_in told.message;
  }

  pub delta_replied : reply_to k (emission_of k to bytes) [] ≡ IsEmitted (message_read k.config.nodes bytes)
  delta_replied =
      subst (λ r. reply_to k (emit_of to r) [] ≡ IsEmitted r) (sym delta_read)
      (ap (λ (m : Message). IsEmitted (Ok m)) (sym delta_message))

  -- and the emit is one of a legal trace
  pub delta_sends : SendsDelta (node_of k) (emission_of k to bytes)
  delta_sends = subst (λ r. SendsDelta (node_of k) (emit_of to r)) (sym delta_read) (told.versions, told.delta)

emit_sends : (k : Kept) (to : ℕ) (reply : Reply) → TellsIfEmit k (told.emits to) reply →
    SendsDelta (node_of k) (emit_asked k.config.nodes to reply)
emit_sends k to (replies.Emit bytes) tells = delta_sends k to bytes.items tells
emit_sends k to (replies.Set stamp) tells = absurd tells
emit_sends k to (replies.Remove stamp) tells = absurd tells
emit_sends k to (replies.Load entries) tells = absurd tells
emit_sends k to (replies.Pass passed) tells = absurd tells
emit_sends k to (replies.Shift total) tells = absurd tells
emit_sends k to (replies.Grant total) tells = absurd tells
emit_sends k to (replies.Deliver changed) tells = absurd tells

-- so is each call whose reply tells what differs, if it is an emit
pub call_sends : (k : Kept) (ask : AskTold) (reply : Reply) → TellsIfEmit k ask reply →
    SendsDelta (node_of k) (asked_from k.config.nodes ask (reply_told reply))
call_sends k (told.emits to) reply tells = emit_sends k to reply tells
call_sends k (told.sets name text) reply tells = tt
call_sends k (told.removes name) reply tells = tt
call_sends k (told.loads text) reply tells = tt
call_sends k (told.passes name) reply tells = tt
call_sends k (told.shifts name term to amount) reply tells = tt
call_sends k (told.grants name term amount) reply tells = tt
call_sends k (told.delivers bytes) reply tells = tt

-- two byte strings that tell what differs are one
pub delta_bytes : (k : Kept) (to : ℕ) (a b : List ℕ) → TellsDelta k to a → TellsDelta k to b → a ≡ b
delta_bytes k to a b told other =
    told.spelled.1
    ∙ ap message_bytes (one_message k.config.nodes told.message other.message told.spelled.0 other.spelled.0 (record {
      from = told.sender ∙ sym other.sender;
      to = told.receiver ∙ sym other.receiver;
      base = bases;
      upto = ap (λ (v : Versions). v.upto) versions;
      ack = ap (λ (v : Versions). v.ack) versions;
      there = λ op h. (other_delta op).1 ((told.delta op).0 h);
      back = λ op h. (told.delta op).1 ((other_delta op).0 h);
    }))
    ∙ sym other.spelled.1
  where
    versions : versions_in told.message ≡ versions_in other.message
    versions = told.versions ∙ sym other.versions

    bases : told.message.base ≡ other.message.base
    bases = ap (λ (v : Versions). v.base) versions

    other_delta : IsDelta ((node_of k).past told.message.base) (state_known k) (operations_in other.message)
    other_delta = subst (λ base. IsDelta ((node_of k).past base) (state_known k) (operations_in other.message))
        (sym bases) other.delta
