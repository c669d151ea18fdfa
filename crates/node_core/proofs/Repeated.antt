-- What a node answers to a call that is made again, against what is told of it.
use Rattle.std.proofs.Common.{◌≡◌, inl, inr, ℕ, zero, suc, ◌+◌, ◌<◌, ◌≤◌, ◌^◌, ◌++◌, Bool, true, false, List, [], ◌∷◌, length, map, take, Option, Some, None, Result, Ok, Err, refl, sym, ◌∙◌, ap, subst, arith, slice_get, add-one}
use Rattle.std.specs.Prelude.{option_map}
use Rattle.std.proofs.lemmas.List.{length-map, length-take-le, map-append}
use Rattle.std.proofs.lemmas.Option.{slice_get_within}
use Rattle.refusals.specs.Refusals.{first_fault}
use Rattle.replica_state.specs.Deltas.{IsDelta}
use Rattle.message_format.specs.declared.fault.WireFault.{WireFault}
use Rattle.message_format.specs.Messages.{MessageValue}
use Rattle.message_format.specs.Reading.{message_at}
use Rattle.message_format.proofs.Fields.{IsBytes}
use Rattle.message_format.proofs.MessageLemmas.{message_takes}
use Rattle.node_calls.specs.declared.fault.NodeFault.{NodeFault}
use Rattle.node_calls.specs.declared.fault.NodeFault.TheVariants.{OutOfMemory}
use Rattle.node_calls.specs.declared.reply.Reply.{Reply}
use Rattle.node_calls.specs.declared.reply.Reply.TheVariants as replies
use Rattle.node_calls.specs.Asks.{Answered, Call, Message, answered_from, asked_first, asked_from, bare_emit, call_from, emit_asked_by, emit_of, message_of, message_read, read_of}
use Rattle.node_calls.specs.Asks as asks
use Rattle.node_calls.specs.Told as tells_of
use Rattle.node_calls.specs.Told.{Told, AskTold, Passed, ReplyTold, was_set, was_removed, was_loaded, was_passed, was_shifted, was_granted, was_emitted, was_delivered, reply_told}
use Rattle.node_steps.specs.declared.config.Config.{Config}
use Rattle.node_core.specs.Applied.{TellsIfEmit}
use Rattle.node_core.specs.Deliveries.{TellsDelta}
use Rattle.node_core.specs.Lasts.{last_passed}
use Rattle.node_steps.specs.Nodes.{Node, start}
use Rattle.node_steps.specs.Refusals.{refusal_at}
use Rattle.node_core.specs.Resumed.{IsFirstWrong, IsLegalAlone, IsLegalCall, IsLegalKept, IsNext, lived}
use Rattle.node_core.specs.Steps.{message_to, reply}
use Rattle.node_core.specs.Traces.{Accepts, IsRefusalOf, Kept, SendsDelta, node_of, refusal, reply_to, state_known, with_call}
use Rattle.node_core.proofs.LegalTraces.{legal_parts, legal_with}
use Rattle.node_core.proofs.RepliedDelta.{call_sends, delta_bytes}

-- ---- replies by what they tell

is_emitted : Answered → Bool
is_emitted (asks.IsEmitted read) = true
is_emitted _ = false

told_by : Answered → ReplyTold
told_by (asks.IsSet stamp) = was_set stamp
told_by (asks.IsRemoved stamp) = was_removed stamp
told_by (asks.IsLoaded entries) = was_loaded entries
told_by (asks.IsPassed outcome) = was_passed outcome
told_by (asks.IsShifted total) = was_shifted total
told_by (asks.IsGranted total) = was_granted total
told_by (asks.IsEmitted read) = was_emitted []
told_by (asks.IsDelivered changed) = was_delivered changed

told_again : (nodes : ℕ) (r : ReplyTold) → is_emitted (answered_from nodes r) ≡ false →
    r ≡ told_by (answered_from nodes r)
unfolding is_emitted told_by
told_again nodes (was_set stamp) h = refl
told_again nodes (was_removed stamp) h = refl
told_again nodes (was_loaded entries) h = refl
told_again nodes (was_passed outcome) h = refl
told_again nodes (was_shifted total) h = refl
told_again nodes (was_granted total) h = refl
told_again nodes (was_emitted bytes) h = absurd (let impossible : true ≡ false = h in cc)
told_again nodes (was_delivered changed) h = refl

-- replies that are one answer, and none of an emit, tell the same
same_told : (nodes : ℕ) (r s : ReplyTold) (a : Answered) → answered_from nodes r ≡ a → answered_from nodes s ≡ a →
    is_emitted a ≡ false → r ≡ s
same_told nodes r s a p q none =
    told_again nodes r (ap is_emitted p ∙ none) ∙ ap told_by (p ∙ sym q) ∙
    sym (told_again nodes s (ap is_emitted q ∙ none))

-- ---- an emit

refuses_third : (a b : Option NodeFault) (fault : NodeFault) → first_fault (a ∷ b ∷ Some fault ∷ []) ≡ None → ⊥
refuses_third (Some x) b fault h = cc
refuses_third None (Some x) fault h = cc
refuses_third None None fault h = cc

-- an emit that is accepted has no words
no_words : (config : Config) (entries : ℕ) (n : Node) (to : ℕ) (read : Result Message WireFault) (words : List ℕ) →
    refusal_at config entries n (emit_of to read) words ≡ None → words ≡ []
no_words config entries n to read [] h = refl
no_words config entries n to (Ok m) (word ∷ words) h = absurd (refuses_third _ _ _ h)
no_words config entries n to (Err fault) (word ∷ words) h = absurd (refuses_third _ _ _ h)

first_of : (config : Config) (entries : ℕ) (n : Node) (to : ℕ) (read : Result Message WireFault) (words : List ℕ) →
    refusal_at config entries n (emit_of to read) words ≡ refusal_at config entries n (bare_emit to) words
first_of config entries n to (Ok m) words = refl
first_of config entries n to (Err fault) words = refl

first_emitted : (k : Kept) (to : ℕ) (reply : ReplyTold) (words : List ℕ) →
    refusal k (emit_asked_by k.config.nodes to reply) words ≡ refusal k (bare_emit to) words
first_emitted k to (was_emitted bytes) words = first_of k.config (length k.trace) (node_of k) to
    (message_read k.config.nodes bytes) words
first_emitted k to (was_set stamp) words = refl
first_emitted k to (was_removed stamp) words = refl
first_emitted k to (was_loaded entries) words = refl
first_emitted k to (was_passed outcome) words = refl
first_emitted k to (was_shifted total) words = refl
first_emitted k to (was_granted total) words = refl
first_emitted k to (was_delivered changed) words = refl

-- whether an ask is refused is settled before there is a reply
refused_first : (k : Kept) (ask : AskTold) (reply : ReplyTold) (words : List ℕ) →
    refusal k (asked_from k.config.nodes ask reply) words ≡ refusal k (asked_first k.config.nodes ask) words
refused_first k (tells_of.emits to) reply words = first_emitted k to reply words
refused_first k (tells_of.sets name text) reply words = refl
refused_first k (tells_of.removes name) reply words = refl
refused_first k (tells_of.loads text) reply words = refl
refused_first k (tells_of.passes name) reply words = refl
refused_first k (tells_of.shifts name term to amount) reply words = refl
refused_first k (tells_of.grants name term amount) reply words = refl
refused_first k (tells_of.delivers bytes) reply words = refl

-- ---- what the bytes of an emit tell

-- bytes that are read as a message are read so by its entries
record IsRead (nodes : ℕ) (bytes : List ℕ) (m : Message) : Type 0 where
  pub value : MessageValue
  pub read : message_at nodes bytes ≡ Ok value
  pub is : m ≡ message_of value

read_by : (nodes : ℕ) (bytes : List ℕ) (m : Message) → message_read nodes bytes ≡ Ok m → IsRead nodes bytes m
unfolding message_read
read_by nodes bytes m h = at (message_at nodes bytes) refl h
  where
    at : (r : Result MessageValue WireFault) → message_at nodes bytes ≡ r → read_of r ≡ Ok m → IsRead nodes bytes m
    at (Ok value) p q =
        let same : message_of value ≡ m = cc in
        record { value = value; read = p; is = sym same }
    at (Err fault) p q = absurd (let impossible : ◌≡◌ {A = Result Message WireFault} (Err fault) (Ok m) = q in cc)

module _ (k : Kept) (to : ℕ) (bytes : List ℕ) (few : k.config.nodes ≤ 2 ^ 8) (fits : IsBytes bytes) where
  pub emit_tells : (read : Result Message WireFault) → message_read k.config.nodes bytes ≡ read →
      SendsDelta (node_of k) (emit_of to read) → asks.IsEmitted read ≡ reply k.config.node (node_of k) (emit_of to read) [] →
      TellsDelta k to bytes
  emit_tells (Err fault) p sends e = absurd (cc)
  emit_tells (Ok m) p sends e =
      let r = read_by k.config.nodes bytes m p in
      let same : m ≡ message_to k.config.node to (record { base = m.base; upto = m.upto; ack = m.ack }) m.ops = cc in
      let by : message_of r.value ≡ m = sym r.is in
      record {
        message = r.value;
        spelled = message_takes k.config.nodes bytes r.value few fits r.read;
        sender = ap (λ (l : Message). l.from) (by ∙ same);
        receiver = ap (λ (l : Message). l.to) (by ∙ same);
        versions = (λ i. record { base = (by i).base; upto = (by i).upto; ack = (by i).ack }) ∙ sends.0;
        delta = subst (λ (l : Message). IsDelta ((node_of k).past l.base) (state_known k) l.ops) r.is sends.1;
      }

-- an emit that may come next
pub next_tells : (k : Kept) (to : ℕ) (words bytes : List ℕ) → k.config.nodes ≤ 2 ^ 8 → IsBytes bytes →
    IsNext k (call_from k.config.nodes (record {
      ask = tells_of.emits to;
      words = words;
      reply = was_emitted bytes;
    })) →
    TellsDelta k to bytes
next_tells k to words bytes few fits next =
    let read = message_read k.config.nodes bytes in
    let none : words ≡ [] = no_words k.config (length k.trace) (node_of k) to read words next.agreed in
    emit_tells k to bytes few fits read refl next.sends
    (subst (λ ws. asks.IsEmitted read ≡ reply k.config.node (node_of k) (emit_of to read) ws) none next.reply)

-- ---- the entry that is told, and what the node makes of it

-- it may come next where the node accepts it and answers as it is told
pub given_next : (k new : Kept) (e : Told) (made : Reply) →
    Accepts k new (asked_from k.config.nodes e.ask (reply_told made)) e.words
    (answered_from k.config.nodes (reply_told made)) →
    TellsIfEmit k e.ask made → reply_told made ≡ e.reply → IsNext k (call_from k.config.nodes e)
given_next k new e made accepts tells same = subst (λ r. IsNext k (record {
  ask = asked_from k.config.nodes e.ask r;
  words = e.words;
  reply = answered_from k.config.nodes r;
})) same (record { agreed = accepts.0; sends = call_sends k e.ask made tells; reply = sym accepts.1 })

-- and it is the next entry then
pub given_made : (k new : Kept) (e : Told) (made : Reply) →
    Accepts k new (asked_from k.config.nodes e.ask (reply_told made)) e.words
    (answered_from k.config.nodes (reply_told made)) →
    reply_told made ≡ e.reply → new ≡ with_call k (call_from k.config.nodes e)
given_made k new e made accepts same =
    accepts.2 ∙ ap (λ a. with_call k (record {
      ask = asked_from k.config.nodes e.ask (reply_told made);
      words = e.words;
      reply = a;
    })) accepts.1 ∙ ap (λ r. with_call k (record {
      ask = asked_from k.config.nodes e.ask r;
      words = e.words;
      reply = answered_from k.config.nodes r;
    })) same

-- a call is answered in one way: what may come next tells what the node replies
emit_same : (k : Kept) (to : ℕ) (words : List ℕ) (made : Reply) (given : ReplyTold) →
    ((bytes : List ℕ) → given ≡ was_emitted bytes → TellsDelta k to bytes) →
    TellsIfEmit k (tells_of.emits to) made → answered_from k.config.nodes given ≡
    reply k.config.node (node_of k) (emit_asked_by k.config.nodes to given) words →
    reply_told made ≡ given
unfolding is_emitted
emit_same k to words (replies.Emit ours) (was_emitted theirs) emits tells answered =
    ap was_emitted (delta_bytes k to ours.items theirs tells (emits theirs refl))
emit_same k to words (replies.Emit ours) (was_set stamp) emits tells answered =
    absurd (let impossible : false ≡ true = ap is_emitted answered in cc)
emit_same k to words (replies.Emit ours) (was_removed stamp) emits tells answered =
    absurd (let impossible : false ≡ true = ap is_emitted answered in cc)
emit_same k to words (replies.Emit ours) (was_loaded entries) emits tells answered =
    absurd (let impossible : false ≡ true = ap is_emitted answered in cc)
emit_same k to words (replies.Emit ours) (was_passed outcome) emits tells answered =
    absurd (let impossible : false ≡ true = ap is_emitted answered in cc)
emit_same k to words (replies.Emit ours) (was_shifted total) emits tells answered =
    absurd (let impossible : false ≡ true = ap is_emitted answered in cc)
emit_same k to words (replies.Emit ours) (was_granted total) emits tells answered =
    absurd (let impossible : false ≡ true = ap is_emitted answered in cc)
emit_same k to words (replies.Emit ours) (was_delivered changed) emits tells answered =
    absurd (let impossible : false ≡ true = ap is_emitted answered in cc)
emit_same k to words (replies.Set stamp) given emits tells answered = absurd tells
emit_same k to words (replies.Remove stamp) given emits tells answered = absurd tells
emit_same k to words (replies.Load entries) given emits tells answered = absurd tells
emit_same k to words (replies.Pass passed) given emits tells answered = absurd tells
emit_same k to words (replies.Shift total) given emits tells answered = absurd tells
emit_same k to words (replies.Grant total) given emits tells answered = absurd tells
emit_same k to words (replies.Deliver changed) given emits tells answered = absurd tells

answer_same : (k : Kept) (ask : AskTold) (words : List ℕ) (made : Reply) (given : ReplyTold) →
    ((to : ℕ) (bytes : List ℕ) → ask ≡ tells_of.emits to → given ≡ was_emitted bytes → TellsDelta k to bytes) →
    TellsIfEmit k ask made →
    answered_from k.config.nodes (reply_told made) ≡
    reply_to k (asked_from k.config.nodes ask (reply_told made)) words →
    answered_from k.config.nodes given ≡ reply_to k (asked_from k.config.nodes ask given) words →
    reply_told made ≡ given
unfolding is_emitted
answer_same k (tells_of.emits to) words made given emits tells answered next =
    emit_same k to words made given (λ bytes is. emits to bytes refl is) tells next
answer_same k (tells_of.sets name text) words made given emits tells answered next =
    same_told k.config.nodes (reply_told made) given _ answered next refl
answer_same k (tells_of.removes name) words made given emits tells answered next =
    same_told k.config.nodes (reply_told made) given _ answered next refl
answer_same k (tells_of.loads text) words made given emits tells answered next =
    same_told k.config.nodes (reply_told made) given _ answered next refl
answer_same k (tells_of.passes name) words made given emits tells answered next =
    same_told k.config.nodes (reply_told made) given _ answered next refl
answer_same k (tells_of.shifts name term to amount) words made given emits tells answered next =
    same_told k.config.nodes (reply_told made) given _ answered next refl
answer_same k (tells_of.grants name term amount) words made given emits tells answered next =
    same_told k.config.nodes (reply_told made) given _ answered next refl
answer_same k (tells_of.delivers bytes) words made given emits tells answered next =
    same_told k.config.nodes (reply_told made) given _ answered next refl

-- so where the node replies otherwise, the call may not come next
pub next_same : (k new : Kept) (e : Told) (made : Reply) →
    ((to : ℕ) (bytes : List ℕ) → e.ask ≡ tells_of.emits to → e.reply ≡ was_emitted bytes → TellsDelta k to bytes) →
    Accepts k new (asked_from k.config.nodes e.ask (reply_told made)) e.words
    (answered_from k.config.nodes (reply_told made)) →
    TellsIfEmit k e.ask made → IsNext k (call_from k.config.nodes e) → reply_told made ≡ e.reply
next_same k new e made emits accepts tells next =
    answer_same k e.ask e.words made e.reply emits tells (sym accepts.1) next.reply

-- and where it refuses
pub not_accepted : (k : Kept) (e : Told) (fault : NodeFault) →
    IsRefusalOf k (asked_first k.config.nodes e.ask) e.words fault → (fault ≡ OutOfMemory → ⊥) →
    IsNext k (call_from k.config.nodes e) → ⊥
not_accepted k e fault refused other next = elim refused [
  | inl memory ↦ other memory
  | inr is ↦
      let both : ◌≡◌ {A = Option NodeFault} None (Some fault) = sym next.agreed ∙
      refused_first k e.ask e.reply e.words ∙ is in
      cc
]

-- ---- a pass, whose reply isn't copied

passed_as : (o : Option Passed) (a : Answered) (p : Passed) → option_map asks.IsPassed o ≡ Some a →
    asks.IsPassed p ≡ a → o ≡ Some p
passed_as None a p last is = absurd (cc last)
passed_as (Some q) a p last is =
    let one : asks.IsPassed q ≡ a = cc last in
    let both : asks.IsPassed q ≡ asks.IsPassed p = one ∙ sym is in
    let same : q ≡ p = cc both in
    ap Some same

-- the node's last call came to what is told
pub pass_same : (k new : Kept) (name words : List ℕ) (p : Passed) →
    option_map asks.IsPassed (last_passed new) ≡ Some (reply_to k (asks.Pass name) words) →
    asks.IsPassed p ≡ reply_to k (asks.Pass name) words → last_passed new ≡ Some p
pass_same k new name words p last told = passed_as (last_passed new) (reply_to k (asks.Pass name) words) p last told

pub pass_told : (k new : Kept) (name words : List ℕ) (p : Passed) →
    option_map asks.IsPassed (last_passed new) ≡ Some (reply_to k (asks.Pass name) words) →
    last_passed new ≡ Some p → asks.IsPassed p ≡ reply_to k (asks.Pass name) words
pass_told k new name words p last is =
    let both : ◌≡◌ {A = Option Answered} (Some (asks.IsPassed p)) (Some (reply_to k (asks.Pass name) words)) =
    ap (option_map asks.IsPassed) (sym is) ∙ last in
    cc both

-- ---- the entries so far

-- a legal node is so after a call that may come next, and only then
pub legal_next : (k : Kept) (c : Call) → IsLegalKept k → IsNext k c → IsLegalKept (with_call k c)
legal_next k c legal next = legal_with k.config 0 start k.trace c legal
    (subst (λ l. IsLegalCall k.config l (node_of k) c) (let from_0 : length k.trace ≡ 0 + length k.trace = omega arith in from_0) next)

pub next_parts : (k : Kept) (c : Call) → IsLegalKept (with_call k c) → IsNext k c
next_parts k c legal =
    let from_0 : 0 + length k.trace ≡ length k.trace = omega arith in
    subst (λ l. IsLegalCall k.config l (node_of k) c) from_0 (legal_parts k.config 0 start k.trace c legal).1

-- a node whose life these entries tell
abbrev pub alone : Config → List Told → Kept
alone config es = lived config (map (call_from config.nodes) es)

pub take_one_more : (es : List Told) (k : ℕ) (e : Told) → slice_get es k ≡ Some e →
    take (suc k) es ≡ take k es ++ e ∷ []
take_one_more [] k e is = absurd (cc is)
take_one_more (f ∷ es) zero e is = let same : f ≡ e = cc is in ap (λ x. x ∷ []) same
take_one_more (f ∷ es) (suc k) e is = ap (λ xs. f ∷ xs) (take_one_more es k e is)

pub take_map : (f : Told → Call) (xs : List Told) (k : ℕ) → take k (map f xs) ≡ map f (take k xs)
take_map f [] zero = refl
take_map f [] (suc k) = refl
take_map f (x ∷ xs) zero = refl
take_map f (x ∷ xs) (suc k) = ap (λ ys. f x ∷ ys) (take_map f xs k)

one_more : (config : Config) (es : List Told) (k : ℕ) (e : Told) → slice_get es k ≡ Some e →
    with_call (alone config (take k es)) (call_from config.nodes e) ≡ alone config (take (k + 1) es)
one_more config es k e is =
    let more : take (k + 1) es ≡ take k es ++ e ∷ [] = ap (λ n. take n es) (add-one k) ∙ take_one_more es k e is in
    ap (λ t. record { config = config; trace = t; from = 0 }) (sym (ap (λ xs. map (call_from config.nodes) xs) more ∙
    map-append (call_from config.nodes) (take k es) (e ∷ [])))

pub replayed_more : (config : Config) (es : List Told) (k : ℕ) (e : Told) (core new : Kept) →
    core ≡ alone config (take k es) → slice_get es k ≡ Some e →
    new ≡ with_call core (call_from core.config.nodes e) → new ≡ alone config (take (k + 1) es)
replayed_more config es k e core new so_far is made =
    made ∙ ap (λ (c : Kept). with_call c (call_from c.config.nodes e)) so_far ∙ one_more config es k e is

pub first_wrong_at : (config : Config) (es : List Told) (k : ℕ) (e : Told) (core : Kept) →
    core ≡ alone config (take k es) → slice_get es k ≡ Some e → IsLegalKept core →
    (IsLegalKept (with_call core (call_from core.config.nodes e)) → ⊥) → IsFirstWrong config es k
first_wrong_at config es k e core so_far is legal wrong = record {
  entry = e;
  there = is;
  legal = subst IsLegalKept so_far legal;
  wrong = λ next. wrong (subst IsLegalKept (sym (ap (λ (c : Kept). with_call c (call_from c.config.nodes e)) so_far ∙
      one_more config es k e is)) next);
}

-- the whole trace was replayed
pub whole_legal : (config : Config) (es : List Told) (k : ℕ) (core : Kept) → core ≡ alone config (take k es) →
    take k es ≡ es → IsLegalKept core → IsLegalAlone config es
whole_legal config es k core so_far whole legal = subst (λ xs. IsLegalKept (alone config xs)) whole
    (subst IsLegalKept so_far legal)

-- past its end a list is taken whole
pub take_past : (es : List Told) (j : ℕ) → slice_get es j ≡ None → take j es ≡ es
take_past [] zero h = refl
take_past [] (suc j) h = refl
take_past (e ∷ es) zero h = absurd (cc h)
take_past (e ∷ es) (suc j) h = ap (λ xs. e ∷ xs) (take_past es j h)

-- and up to the place of one it has as many as the place says, and one more
pub taken_length : (config : Config) (es : List Told) (k : ℕ) (e : Told) → slice_get es k ≡ Some e →
    length (map (call_from config.nodes) (take (k + 1) es)) ≡ k + 1
taken_length config es k e is =
    let below : k < length es = slice_get_within es k e is in
    length-map (take (k + 1) es) (call_from config.nodes) ∙ length-take-le (k + 1) es (omega (arith, below))
