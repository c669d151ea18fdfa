-- What receipts ask.
use Rattle.std.proofs.Common.{◌≡◌, ℕ, List, [], ◌∷◌, Bool, true, false, Ok, Err, Result, refl, ap, ◌∙◌, sym, true≢false}
use Rattle.message_format.specs.declared.fault.WireFault.{WireFault}
use Rattle.node_calls.specs.declared.ask.Ask.{Ask}
use Rattle.node_calls.specs.declared.ask.Ask.TheVariants as asks
use Rattle.node_calls.specs.declared.reply.Reply.{Reply}
use Rattle.node_calls.specs.declared.reply.Reply.TheVariants as replies
use Rattle.node_calls.specs.Asks as asked
use Rattle.node_calls.specs.Asks.{Asked, Message, ask_value_first, bare_emit}
use Rattle.node_calls.specs.Told.{ask_told, bytes_of, reply_told}
use Rattle.node_core.specs.Applied.{TellsIfEmit}
use Rattle.node_core.specs.Traces.{Kept}
use Rattle.gossip.specs.Carried.{bytes_told, delivery_told, emit_told}
use Rattle.gossip.specs.Reports.{is_delivery, is_emit}

-- the same asks ask the same
pub asked_as : (nodes : ℕ) {ask other : Ask} → ask ≡ other → ask_value_first nodes ask ≡ ask_value_first nodes other
asked_as nodes e = ap (ask_value_first nodes) e

to_of : Asked → ℕ
to_of (asked.Emit to versions chosen) = to
to_of ask = 0

pub is_message : Reply → Bool
is_message (replies.Emit bytes) = true
is_message _ = false

-- the reply to an emit is a message
pub emit_has_message : (nodes : ℕ) (k : Kept) (ask : Ask) (reply : Reply) → is_emit (ask_value_first nodes ask) ≡ true →
    TellsIfEmit k (ask_told ask) reply → is_message reply ≡ true
unfolding is_message
emit_has_message nodes k (asks.Emit to) (replies.Emit bytes) e tells = refl
emit_has_message nodes k (asks.Emit to) (replies.Set s) e tells = absurd tells
emit_has_message nodes k (asks.Emit to) (replies.Remove s) e tells = absurd tells
emit_has_message nodes k (asks.Emit to) (replies.Load n) e tells = absurd tells
emit_has_message nodes k (asks.Emit to) (replies.Pass p) e tells = absurd tells
emit_has_message nodes k (asks.Emit to) (replies.Shift n) e tells = absurd tells
emit_has_message nodes k (asks.Emit to) (replies.Grant n) e tells = absurd tells
emit_has_message nodes k (asks.Emit to) (replies.Deliver b) e tells = absurd tells
emit_has_message nodes k (asks.Set name text) reply e tells = absurd (true≢false (sym e))
emit_has_message nodes k (asks.Remove name) reply e tells = absurd (true≢false (sym e))
emit_has_message nodes k (asks.Load text) reply e tells = absurd (true≢false (sym e))
emit_has_message nodes k (asks.Pass name) reply e tells = absurd (true≢false (sym e))
emit_has_message nodes k (asks.Shift name term to amount) reply e tells = absurd (true≢false (sym e))
emit_has_message nodes k (asks.Grant name term amount) reply e tells = absurd (true≢false (sym e))
emit_has_message nodes k (asks.Deliver message) reply e tells = absurd (true≢false (sym e))

-- what an emit's receipt and a delivery's carry
pub emit_carries : (nodes to : ℕ) (ask : Ask) (reply : Reply) → ask_value_first nodes ask ≡ bare_emit to →
    emit_told (ask_told ask) (reply_told reply) ≡ (to, bytes_told (reply_told reply)) ∷ []
unfolding to_of
emit_carries nodes to (asks.Emit other) reply e = ap (λ n. (n, bytes_told (reply_told reply)) ∷ []) (ap to_of e)
emit_carries nodes to (asks.Set name text) reply e = absurd (true≢false (sym (ap is_emit e)))
emit_carries nodes to (asks.Remove name) reply e = absurd (true≢false (sym (ap is_emit e)))
emit_carries nodes to (asks.Load text) reply e = absurd (true≢false (sym (ap is_emit e)))
emit_carries nodes to (asks.Pass name) reply e = absurd (true≢false (sym (ap is_emit e)))
emit_carries nodes to (asks.Shift name term other amount) reply e = absurd (true≢false (sym (ap is_emit e)))
emit_carries nodes to (asks.Grant name term amount) reply e = absurd (true≢false (sym (ap is_emit e)))
emit_carries nodes to (asks.Deliver message) reply e = absurd (true≢false (sym (ap is_emit e)))

pub emit_brings_none : (nodes to : ℕ) (ask : Ask) → ask_value_first nodes ask ≡ bare_emit to →
    delivery_told (ask_told ask) ≡ []
emit_brings_none nodes to (asks.Emit other) e = refl
emit_brings_none nodes to (asks.Set name text) e = refl
emit_brings_none nodes to (asks.Remove name) e = refl
emit_brings_none nodes to (asks.Load text) e = refl
emit_brings_none nodes to (asks.Pass name) e = refl
emit_brings_none nodes to (asks.Shift name term other amount) e = refl
emit_brings_none nodes to (asks.Grant name term amount) e = refl
emit_brings_none nodes to (asks.Deliver message) e = absurd (true≢false (sym (ap is_emit e)))

pub delivery_brings : (nodes : ℕ) (read : Result Message WireFault) (ask : Ask) →
    ask_value_first nodes ask ≡ asked.Deliver read → delivery_told (ask_told ask) ≡ bytes_of (ask_told ask) ∷ []
delivery_brings nodes read (asks.Deliver message) e = refl
delivery_brings nodes read (asks.Emit to) e = absurd (true≢false (sym (ap is_delivery e)))
delivery_brings nodes read (asks.Set name text) e = absurd (true≢false (sym (ap is_delivery e)))
delivery_brings nodes read (asks.Remove name) e = absurd (true≢false (sym (ap is_delivery e)))
delivery_brings nodes read (asks.Load text) e = absurd (true≢false (sym (ap is_delivery e)))
delivery_brings nodes read (asks.Pass name) e = absurd (true≢false (sym (ap is_delivery e)))
delivery_brings nodes read (asks.Shift name term to amount) e = absurd (true≢false (sym (ap is_delivery e)))
delivery_brings nodes read (asks.Grant name term amount) e = absurd (true≢false (sym (ap is_delivery e)))

pub delivery_carries_none : (nodes : ℕ) (read : Result Message WireFault) (ask : Ask) (reply : Reply) →
    ask_value_first nodes ask ≡ asked.Deliver read → emit_told (ask_told ask) (reply_told reply) ≡ []
delivery_carries_none nodes read (asks.Deliver message) reply e = refl
delivery_carries_none nodes read (asks.Emit to) reply e = absurd (true≢false (sym (ap is_delivery e)))
delivery_carries_none nodes read (asks.Set name text) reply e = refl
delivery_carries_none nodes read (asks.Remove name) reply e = refl
delivery_carries_none nodes read (asks.Load text) reply e = refl
delivery_carries_none nodes read (asks.Pass name) reply e = refl
delivery_carries_none nodes read (asks.Shift name term to amount) reply e = refl
delivery_carries_none nodes read (asks.Grant name term amount) reply e = refl
