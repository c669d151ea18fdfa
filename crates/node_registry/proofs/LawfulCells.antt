-- A lawful cell stays lawful.
use Rattle.std.proofs.Common.{◌≡◌, ℕ, ◌+◌, ◌<◌, ◌^◌, Bool, true, false, List, [], ◌∷◌, ◌++◌, length, Option, None, Result, Ok, Err, refl, sym, ap, ◌∙◌, subst, arith, length-append, append_assoc, append-nil}
use Rattle.std.proofs.lemmas.Bool.Decides.{nat_tests}
use Rattle.std.specs.Bool.{then_some}
use Rattle.refusals.specs.Refusals.{first_fault}
use Rattle.node_calls.specs.declared.ask.Ask.{Ask}
use Rattle.node_calls.specs.declared.ask.Ask.TheVariants as asked
use Rattle.node_steps.specs.declared.config.Config.{Config}
use Rattle.node_calls.specs.declared.fault.NodeFault.{NodeFault}
use Rattle.node_calls.specs.declared.fault.NodeFault.TheVariants as faults
use Rattle.node_calls.specs.declared.reply.Reply.{Reply}
use Rattle.node_calls.specs.declared.reply.Reply.TheVariants as replies
use Rattle.node_calls.specs.declared.trace.Entry.{Entry}
use Rattle.message_format.specs.declared.fault.WireFault.{WireFault}
use Rattle.node_calls.specs.Asks.{Asked, Call, ask_value, ask_value_first, emit_asked, emit_of, message_read, Message}
use Rattle.node_calls.specs.Asks as asks
use Rattle.node_calls.specs.Told.{ask_told}
use Rattle.node_steps.specs.Nodes.{start}
use Rattle.node_core.specs.Steps.{reply}
use Rattle.node_steps.specs.Refusals.{refusal_at, is_full}
use Rattle.node_core.specs.Traces.{Kept, SendsDelta, node_of, refusal, entry_for, call_of}
use Rattle.node_core.proofs.LegalTraces.{legal_more, nothing_legal}
use Rattle.node_core.proofs.RepliedDelta.{call_sends}
use Rattle.node_steps.specs.Words.{words_from}
use Rattle.node_registry.specs.Words.{words_of, words_taken}
use Rattle.node_registry.specs.Cells.{Cell, cell_after, new_cell, next_words, Enters, IsLawful, IsWithinBounds}
use Rattle.node_steps.proofs.StreamWords.{words_from-add}

-- the random draws of a trace with a call more
words_of-push : (cs : List Call) (c : Call) → words_of (cs ++ c ∷ []) ≡ words_of cs ++ c.words
words_of-push [] c = append-nil c.words
words_of-push (x ∷ cs) c = ap (λ ws. x.words ++ ws) (words_of-push cs c) ∙
    sym (append_assoc x.words (words_of cs) c.words)

pub new_lawful : (config : Config) (seed : List ℕ) → IsLawful (new_cell config seed)
new_lawful config seed = record { legal = nothing_legal config; drawn = refl }

entered_is : (c d : Cell) (e : Entry) → Enters c d e → d ≡ cell_after c (call_of c.node e).ask
entered_is c d e h = λ i. record { node = h.records.2 i; key = h.key i; place = h.place i }

pub lawful_after : (c : Cell) (ask : Asked) → IsLawful c → refusal c.node ask (next_words c ask) ≡ None →
    SendsDelta (node_of c.node) ask → IsLawful (cell_after c ask)
lawful_after c ask h accepted sends =
    let ws = next_words c ask in
    let from_0 : length c.node.trace ≡ 0 + length c.node.trace = omega arith in
    let place_0 : 0 + c.place ≡ c.place = omega arith in record {
      legal = legal_more c.node.config 0 start c.node.trace ask ws h.legal
          (subst (λ l. refusal_at c.node.config l (node_of c.node) ask ws ≡ None) from_0 accepted) sends;
      drawn = words_of-push c.node.trace (entry_for c.node ask ws)
          ∙ ap (λ xs. xs ++ ws) h.drawn
          ∙ sym (words_from-add c.key c.node.config.node 0 c.place (words_taken c.node ask)
          ∙ ap (λ p. words_from c.key c.node.config.node 0 c.place ++
          words_from c.key c.node.config.node p (words_taken c.node ask)) place_0);
    }

-- an accepted call finds room: the first refusal of each ask is for a full trace
starts_free : (full : Bool) (rest : List (Option NodeFault)) →
    first_fault (then_some full faults.TraceFull ∷ rest) ≡ None → full ≡ false
starts_free false rest h = refl
starts_free true rest h = absurd (let no : ⊥ = cc in no)

not_full : (k : Kept) (ask : Asked) (words : List ℕ) → refusal k ask words ≡ None →
    is_full k.config (length k.trace) ≡ false
not_full k (asks.Set name text) words h = starts_free (is_full k.config (length k.trace)) _ h
not_full k (asks.Remove name) words h = starts_free (is_full k.config (length k.trace)) _ h
not_full k (asks.Load text) words h = starts_free (is_full k.config (length k.trace)) _ h
not_full k (asks.Pass name) words h = starts_free (is_full k.config (length k.trace)) _ h
not_full k (asks.Shift name term to amount) words h = starts_free (is_full k.config (length k.trace)) _ h
not_full k (asks.Grant name term amount) words h = starts_free (is_full k.config (length k.trace)) _ h
not_full k (asks.Emit to versions chosen) words h = starts_free (is_full k.config (length k.trace)) _ h
not_full k (asks.Deliver read) words h = starts_free (is_full k.config (length k.trace)) _ h

pub bounds_after : (c : Cell) (ask : Asked) → IsWithinBounds c → refusal c.node ask (next_words c ask) ≡ None →
    words_taken c.node ask < 2 ^ 8 → IsWithinBounds (cell_after c ask)
bounds_after c ask h accepted few =
    let more : length (c.node.trace ++ entry_for c.node ask (next_words c ask) ∷ []) ≡ length c.node.trace + 1 =
    length-append c.node.trace _ in
    let free = not_full c.node ask (next_words c ask) accepted in
    let room : length c.node.trace < c.node.config.trace_cap = grind (arith, nat_tests) in
    let so_far = h.few_words in record {
      few_words = omega arith;
      few_calls = omega arith;
      small_cap = h.small_cap;
    }

pub stays_within : (c d : Cell) (e : Entry) → IsWithinBounds c → words_taken c.node (call_of c.node e).ask < 2 ^ 8 →
    Enters c d e → IsWithinBounds d
stays_within c d e h few enters =
    subst IsWithinBounds (sym (entered_is c d e enters)) (bounds_after c (call_of c.node e).ask h enters.records.0 few)

-- how many words a call takes is settled before there is a reply
pub taken_first : (k : Kept) (ask : Ask) (reply : Reply) → words_taken k (ask_value k.config.nodes ask reply) ≡
    words_taken k (ask_value_first k.config.nodes ask)
taken_first k (asked.Emit to) reply = emitted reply
  where
    of : (read : Result Message WireFault) → words_taken k (emit_of to read) ≡ 0
    of (Ok m) = refl
    of (Err fault) = refl

    emitted : (r : Reply) → words_taken k (emit_asked k.config.nodes to r) ≡ 0
    emitted (replies.Emit bytes) = of (message_read k.config.nodes bytes.items)
    emitted (replies.Set stamp) = refl
    emitted (replies.Remove stamp) = refl
    emitted (replies.Load entries) = refl
    emitted (replies.Pass passed) = refl
    emitted (replies.Shift total) = refl
    emitted (replies.Grant total) = refl
    emitted (replies.Deliver changed) = refl
taken_first k (asked.Set name text) reply = refl
taken_first k (asked.Remove name) reply = refl
taken_first k (asked.Load text) reply = refl
taken_first k (asked.Pass name) reply = refl
taken_first k (asked.Shift name term to amount) reply = refl
taken_first k (asked.Grant name term amount) reply = refl
taken_first k (asked.Deliver bytes) reply = refl

pub stays_lawful : (c d : Cell) (e : Entry) → IsLawful c → Enters c d e → IsLawful d
stays_lawful c d e h enters =
    subst IsLawful (sym (entered_is c d e enters)) (lawful_after c (call_of c.node e).ask h enters.records.0
    (call_sends c.node (ask_told e.ask) e.reply enters.tells))
