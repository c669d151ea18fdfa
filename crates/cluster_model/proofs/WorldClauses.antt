-- What an accepted event comes to: its answer, the world after it, and the history of that.
use Rattle.std.proofs.Common.{◌≡◌, inl, inr, ℕ, ◌+◌, ◌-◌, ◌<◌, ◌≤◌, arith, Bool, false, List, [], ◌∷◌, ◌++◌, length, map, refl, sym, ◌∙◌, ap, subst, Option, Some, None, Ok, Err}
use Rattle.std.proofs.lemmas.List.{length_push}
use Rattle.std.proofs.lemmas.Option.{slice_get-map, slice_get_past, slice_get_read}
use Rattle.std.specs.Prelude.{slice_get, slice_set, option_map, option_and_then, get_or}
use Rattle.node_calls.specs.declared.fault.NodeFault.{NodeFault}
use Rattle.node_calls.specs.declared.fault.NodeFault.TheVariants.{OutOfMemory}
use Rattle.node_calls.specs.declared.reply.Reply.{Reply}
use Rattle.node_calls.specs.declared.reply.Reply.TheVariants as replies
use Rattle.node_calls.specs.Told.{AskTold, emits, reply_told}
use Rattle.node_calls.specs.Told as told
use Rattle.node_calls.specs.Asks.{Asked, Answered, Call, Message, asked_first, asked_from, bare_emit, emit_of, message_read, reply_value}
use Rattle.node_calls.specs.Asks as asks
use Rattle.node_core.specs.Applied.{TellsIfEmit}
use Rattle.node_core.specs.Deliveries.{TellsDelta}
use Rattle.node_core.specs.Lasts.{last_call}
use Rattle.node_core.specs.Traces.{Kept, entry_for, Accepts, IsRefusalOf, SendsDelta, after_call, delivery_of, emission_of, node_of, reply_to}
use Rattle.cluster_model.specs.declared.world.Place.{Place}
use Rattle.cluster_model.specs.declared.fault.WorldFault.TheVariants.{NoNode, NoMessage, Refused}
use Rattle.cluster_model.specs.Worlds.{Cluster, Event, sent}
use Rattle.cluster_model.specs.Events.{WorldValue, EventValue, Answer, last_reply, calls, delivers, has_message, message_made, node_asked, words_given, asked_by, answer, world_after, scheduled}
use Rattle.cluster_model.specs.Places.{IsEmit, IsEmitOf, IsPlace, IsWorld, AreSizes, message_at, world_of}
use Rattle.cluster_model.specs.Runs.{Continues, HasHistory, IsAnswer, happened}
use Rattle.cluster_model.proofs.Lists.{get_below, get_there, get_set_same, get_last}
use Rattle.cluster_model.proofs.Placed.{message_is, world_stays, world_pushed}
use Rattle.cluster_model.proofs.WorldSteps.{IsAccepted, accepts, accepted_answer, accepted_after, goes_on}
use Rattle.cluster_model.proofs.WorldCalls.{no_node_answer, no_message_answer, refused_answer, IsSilent, silent, silent_after, emission_is, emission_sends, place_made, emitted_after, emitted_answer}

-- ---- an event is accepted with this reply, and these are the nodes and messages after it

pub record Fits (w : WorldValue) (after : List Kept) (places_after : List Place) (e : EventValue) (reply : Answered) :
    Type 0 where
  pub answer_is : answer w e ≡ Ok reply
  pub after_is : world_of after places_after ≡ world_after w e
  pub good : IsWorld after places_after
  pub history : Continues w (world_of after places_after) (happened w e (Ok reply))

continued : (w new : WorldValue) (e : EventValue) (reply : Answered) → new ≡ world_after w e
    → ((c : Cluster) (past : List Event) → HasHistory c past w → HasHistory c (scheduled w e ++ past) (world_after w e))
    → Continues w new (happened w e (Ok reply))
continued w new e reply is goes c past has = subst (HasHistory c (scheduled w e ++ past)) (sym is) (goes c past has)

-- the nodes and messages of a world as the code holds them, and one of its nodes
pub record IsAtHand (nodes : List Kept) (places : List Place) (w : WorldValue) (i : ℕ) (k : Kept) : Type 0 where
  pub good : IsWorld nodes places
  pub view : world_of nodes places ≡ w
  pub there : slice_get nodes i ≡ Some k

pub at_hand : (nodes : List Kept) (places : List Place) (w : WorldValue) (i : ℕ) (k : Kept) → IsWorld nodes places →
    world_of nodes places ≡ w → i < length w.nodes → k ≡ get_or nodes i k → IsAtHand nodes places w i k
at_hand nodes places w i k good view low read = record {
  good = good;
  view = view;
  there = slice_get_read nodes (length nodes) i k refl (subst (λ (w : WorldValue). i < length w.nodes) (sym view) low)
      read;
}

pub some_hand : (nodes : List Kept) (places : List Place) (w : WorldValue) (i : ℕ) → IsWorld nodes places →
    world_of nodes places ≡ w → i < length w.nodes → (k : Kept) × IsAtHand nodes places w i k
some_hand nodes places w i good view low =
    let at : (k : Kept) × (slice_get nodes i ≡ Some k) = get_there nodes i
    (subst (λ (w : WorldValue). i < length w.nodes) (sym view) low) in
    (at.0, record { good = good; view = view; there = at.1 })

-- ---- an event that sends nothing

module _ {nodes : List Kept} {places : List Place} (good : IsWorld nodes places) (e : EventValue) {k : Kept}
    (there : slice_get nodes (node_asked e) ≡ Some k) where
  abbrev w : WorldValue
  w = world_of nodes places

  pub silent_fits : (a : Asked) → asked_by w.messages k e ≡ Some a → sent k.config.node (node_of k) (Some a) ≡ [] →
      SendsDelta (node_of k) a
      → (new : Kept) (reply : Answered) → Accepts k new a (words_given e) reply →
      Fits w (slice_set nodes (node_asked e) new) places e reply
  silent_fits a asked none sends new reply accepts =
      record {
        answer_is = accepted_answer w e k a is ∙ ap (λ r. Ok r) accepts.1;
        after_is = after_is;
        good = subst (λ (n : Kept). IsWorld (slice_set nodes (node_asked e) n) places) (sym accepts.2)
            (world_stays nodes (node_asked e) k there a (words_given e) places good);
        history = continued w _ e reply after_is (λ c past has. goes_on c past w has e k a is sends);
      }
    where
      is : IsAccepted w e k a
      is = record { there = there; asked = asked; agreed = accepts.0 }

      after_is : world_of (slice_set nodes (node_asked e) new) places ≡ world_after w e
      after_is = ap (λ (n : Kept). world_of (slice_set nodes (node_asked e) n) places) accepts.2 ∙
          silent_after nodes places good e k there a asked none accepts.0

-- ---- a message, which stands where its sender's trace had its end

module _ {nodes : List Kept} {places : List Place} (good : IsWorld nodes places) (i to : ℕ) (words : List ℕ) {k : Kept}
    (there : slice_get nodes i ≡ Some k) {bytes : List ℕ} (delta : TellsDelta k to bytes) where
  abbrev before : WorldValue
  before = world_of nodes places

  abbrev event : EventValue
  event = calls i (emits to) words

  abbrev emission : Asked
  emission = emit_of to (Ok (message_made k to))

  abbrev place_of : Place
  place_of = record { node = i; entry = length k.trace }

  emission_fits : (new : Kept) (reply : Answered) → Accepts k new (emission_of k to bytes) words reply
      → Fits before (slice_set nodes i new) (places ++ place_of ∷ []) event reply
  emission_fits new reply given =
      record {
        answer_is = emitted_answer nodes places good i to words k there bytes delta made.0 ∙ ap (λ r. Ok r) made.1;
        after_is = after_is;
        good = subst (λ (n : Kept). IsWorld (slice_set nodes i n) (places ++ place_of ∷ [])) (sym made.2)
            (world_pushed (slice_set nodes i (after_call k emission words)) places place_of
            (world_stays nodes i k there emission words places good)
            (place_made nodes places good i to words k there bytes delta));
        history = continued before _ event reply after_is (λ c past has. goes_on c past before has event k emission is
            (emission_sends nodes places good i to words k there bytes delta));
      }
    where
      made : Accepts k new emission words reply
      made = subst (λ (a : Asked). Accepts k new a words reply)
          (emission_is nodes places good i to words k there bytes delta) given

      is : IsAccepted before event k emission
      is = record { there = there; asked = refl; agreed = made.0 }

      after_is : world_of (slice_set nodes i new) (places ++ place_of ∷ []) ≡ world_after before event
      after_is = ap (λ (n : Kept). world_of (slice_set nodes i n) (places ++ place_of ∷ [])) made.2 ∙
          emitted_after nodes places good i to words k there bytes delta made.0

-- ---- as the code calls its nodes

module _ {nodes : List Kept} {places : List Place} {w : WorldValue} {i : ℕ} {k : Kept}
    (hand : IsAtHand nodes places w i k) where
  abbrev size : ℕ
  size = length w.nodes

  -- the replies of the node are read as those of the world
  sized : (P : Answered → Type 0) (reply : Reply) → P (reply_value k.config.nodes reply) → P (reply_value size reply)
  sized P reply given =
      subst (λ (n : ℕ). P (reply_value n reply)) (hand.good.sizes i k hand.there ∙
      ap (λ (w : WorldValue). length w.nodes) hand.view) given

  -- a call that neither makes nor brings a message
  pub call_fits : (ask : AskTold) → has_message ask ≡ false → (words : List ℕ) (new : Kept) (reply : Reply)
      → Accepts k new (asked_from k.config.nodes ask (reply_told reply)) words (reply_value k.config.nodes reply)
      → Fits w (slice_set nodes i new) places (calls i ask words) (reply_value size reply)
  call_fits ask silently words new reply given =
      sized (Fits w (slice_set nodes i new) places (calls i ask words)) reply
      (subst (λ (w : WorldValue). Fits w (slice_set nodes i new) places (calls i ask words)
      (reply_value k.config.nodes reply)) hand.view
      (silent_fits hand.good (calls i ask words) hand.there (asked_first k.config.nodes ask) is.asked
      is.none is.sends new (reply_value k.config.nodes reply)
      (subst (λ (a : Asked). Accepts k new a words (reply_value k.config.nodes reply)) (is.replied (reply_told reply))
      given)))
    where
      is : IsSilent k ask (asked_first k.config.nodes ask)
      is = silent k ask silently

  -- a pass whose reply is read from the trace
  pub pass_fits : (name words : List ℕ) (new : Kept) → Accepts k new (asks.Pass name) words
      (reply_to k (asks.Pass name) words)
      → Fits w (slice_set nodes i new) places (calls i (told.passes name) words) (reply_to k (asks.Pass name) words)
  pass_fits name words new given =
      subst (λ (w : WorldValue). Fits w (slice_set nodes i new) places (calls i (told.passes name) words)
      (reply_to k (asks.Pass name) words)) hand.view
      (silent_fits hand.good (calls i (told.passes name) words) hand.there (asks.Pass name) refl refl tt
      new _ given)

  refused : (e : EventValue) → node_asked e ≡ i → (a : Asked) → asked_by (world_of nodes places).messages k e ≡ Some a
      → (fault : NodeFault) → IsRefusalOf k a (words_given e) fault → IsAnswer w e (Err (Refused fault))
  refused e at a asked fault given =
      subst (λ (w : WorldValue). IsAnswer w e (Err (Refused fault))) hand.view
      (refused_answer (world_of nodes places) e k a (ap (slice_get nodes) at ∙ hand.there) asked fault given)

  pub call_refused : (ask : AskTold) → has_message ask ≡ false → (words : List ℕ) (fault : NodeFault)
      → IsRefusalOf k (asked_first k.config.nodes ask) words fault →
      IsAnswer w (calls i ask words) (Err (Refused fault))
  call_refused ask silently words fault given = refused (calls i ask words) refl _ (silent k ask silently).asked fault
      given

  -- an emit
  pub emit_refused : (to : ℕ) (words : List ℕ) (fault : NodeFault) → IsRefusalOf k (bare_emit to) words fault
      → IsAnswer w (calls i (emits to) words) (Err (Refused fault))
  emit_refused to words fault given = refused (calls i (emits to) words) refl (emit_of to (Ok (message_made k to))) refl
      fault given

  pub emit_fits : (to : ℕ) (words : List ℕ) (reply : Reply) → TellsIfEmit k (emits to) reply → (new : Kept)
      → Accepts k new (asked_from k.config.nodes (emits to) (reply_told reply)) words (reply_value k.config.nodes reply)
      → (places_after : List Place) → places_after ≡ places ++ record { node = i; entry = length k.trace } ∷ []
      → Fits w (slice_set nodes i new) places_after (calls i (emits to) words) (reply_value size reply)
  emit_fits to words (replies.Emit bytes) tells new given places_after pushed =
      sized (Fits w (slice_set nodes i new) places_after (calls i (emits to) words)) (replies.Emit bytes)
      (subst (λ (ps : List Place). Fits w (slice_set nodes i new) ps (calls i (emits to) words)
      (reply_value k.config.nodes (replies.Emit bytes))) (sym pushed)
      (subst (λ (w : WorldValue). Fits w (slice_set nodes i new)
      (places ++ record { node = i; entry = length k.trace } ∷ []) (calls i (emits to) words)
      (reply_value k.config.nodes (replies.Emit bytes))) hand.view
      (emission_fits hand.good i to words hand.there tells new
      (reply_value k.config.nodes (replies.Emit bytes)) given)))
  emit_fits to words (replies.Set stamp) tells new given places_after pushed = absurd tells
  emit_fits to words (replies.Remove stamp) tells new given places_after pushed = absurd tells
  emit_fits to words (replies.Load entries) tells new given places_after pushed = absurd tells
  emit_fits to words (replies.Pass passed) tells new given places_after pushed = absurd tells
  emit_fits to words (replies.Shift total) tells new given places_after pushed = absurd tells
  emit_fits to words (replies.Grant total) tells new given places_after pushed = absurd tells
  emit_fits to words (replies.Deliver changed) tells new given places_after pushed = absurd tells

  -- a delivery of the message of this number
  asked_at : (number : ℕ) → option_map (λ m. asks.Deliver (Ok m)) (slice_get (map (message_at nodes) places) number)
      ≡ option_map (λ p. asks.Deliver (Ok (message_at nodes p))) (slice_get places number)
  asked_at number = ap (option_map (λ m. asks.Deliver (Ok m))) (slice_get-map (message_at nodes) places number) ∙
      twice (slice_get places number)
    where
      twice : (o : Option Place) → option_map (λ m. asks.Deliver (Ok m)) (option_map (message_at nodes) o) ≡ option_map
          (λ p. asks.Deliver (Ok (message_at nodes p))) o
      twice None = refl
      twice (Some p) = refl

  pub no_message : (number : ℕ) → slice_get places number ≡ None → IsAnswer w (delivers i number) (Err NoMessage)
  no_message number none =
      subst (λ (w : WorldValue). IsAnswer w (delivers i number) (Err NoMessage)) hand.view
      (inr (sym (no_message_answer (world_of nodes places) (delivers i number) k hand.there
      (asked_at number ∙ ap (option_map (λ p. asks.Deliver (Ok (message_at nodes p)))) none))))

  module _ (number : ℕ) (place : Place) (found : slice_get places number ≡ Some place) (bytes : List ℕ)
      (read : message_read k.config.nodes bytes ≡ Ok (message_at nodes place)) where
    abbrev delivery : Asked
    delivery = asks.Deliver (Ok (message_at nodes place))

    asked : asked_by (world_of nodes places).messages k (delivers i number) ≡ Some delivery
    asked = asked_at number ∙ ap (option_map (λ p. asks.Deliver (Ok (message_at nodes p)))) found

    pub delivery_fits : (new : Kept) (changed : Bool) → Accepts k new (delivery_of k bytes) []
        (asks.IsDelivered changed)
        → Fits w (slice_set nodes i new) places (delivers i number) (asks.IsDelivered changed)
    delivery_fits new changed given =
        subst (λ (w : WorldValue). Fits w (slice_set nodes i new) places (delivers i number) (asks.IsDelivered changed))
        hand.view
        (silent_fits hand.good (delivers i number) hand.there delivery asked refl tt new
        (asks.IsDelivered changed)
        (subst (λ r. Accepts k new (asks.Deliver r) [] (asks.IsDelivered changed)) read given))

    pub delivery_refused : (fault : NodeFault) → IsRefusalOf k (delivery_of k bytes) [] fault →
        IsAnswer w (delivers i number) (Err (Refused fault))
    delivery_refused fault given =
        refused (delivers i number) refl delivery asked fault
        (subst (λ r. IsRefusalOf k (asks.Deliver r) [] fault) read given)

-- ---- what stands at a place is read from the bytes that its sender's trace has there

same_kept : (a b : Kept) → ◌≡◌ {A = Option Kept} (Some a) (Some b) → a ≡ b
same_kept a b h = cc

module _ (nodes : List Kept) (sizes : AreSizes nodes) (place : Place) (is : IsPlace nodes place) (s : Kept) (i : ℕ)
    (k : Kept) (bytes : List ℕ) where
  pub read_at : s ≡ get_or nodes place.node s → slice_get nodes i ≡ Some k →
      ((m : Message) → IsEmitOf s.trace place.entry m → message_read s.config.nodes bytes ≡ Ok m)
      → message_read k.config.nodes bytes ≡ Ok (message_at nodes place)
  read_at at_place there read =
      let sender : slice_get nodes place.node ≡ Some s = slice_get_read nodes (length nodes) place.node s refl
      (get_below nodes place.node is.node is.there) at_place in
      let same : is.node ≡ s = same_kept is.node s (sym is.there ∙ sender) in
      let emit : IsEmitOf s.trace place.entry is.emit.0 = subst (λ (n : Kept). IsEmitOf n.trace place.entry is.emit.0)
      same is.emit.1 in
      ap (λ n. message_read n bytes) (sizes i k there ∙ sym (sizes place.node s sender)) ∙ read is.emit.0 emit ∙
      ap (λ m. Ok m) (sym (message_is nodes place is))

-- a delivery of bytes is no call of a cluster
pub no_bytes : (w : WorldValue) (i : ℕ) → i < length w.nodes → (bytes words : List ℕ) →
    IsAnswer w (calls i (told.delivers bytes) words) (Err NoMessage)
no_bytes w i low bytes words =
    let at : (k : Kept) × (slice_get w.nodes i ≡ Some k) = get_there w.nodes i low in
    inr (sym (no_message_answer w (calls i (told.delivers bytes) words) at.0 at.1 refl))

pub no_node : (w : WorldValue) (e : EventValue) → length w.nodes ≤ node_asked e → IsAnswer w e (Err NoNode)
no_node w e high = inr (sym (no_node_answer w e (slice_get_past w.nodes (node_asked e) high)))

-- the sender of a message has it in its trace
pub sender_at : (nodes : List Kept) (place : Place) → IsPlace nodes place → (s : Kept) →
    s ≡ get_or nodes place.node s → slice_get nodes place.node ≡ Some s
sender_at nodes place is s at_place =
    slice_get_read nodes (length nodes) place.node s refl (get_below nodes place.node is.node is.there) at_place

pub emit_at : (nodes : List Kept) (place : Place) (is : IsPlace nodes place) (s : Kept) →
    s ≡ get_or nodes place.node s → IsEmit s.trace place.entry
emit_at nodes place is s at_place =
    subst (λ (n : Kept). IsEmit n.trace place.entry)
    (same_kept is.node s (sym is.there ∙ sender_at nodes place is s at_place)) is.emit

-- ---- the last reply is the answer

pub answered : (w : WorldValue) (e : EventValue) (reply : Answered) → IsAnswer w e (Ok reply) → answer w e ≡ Ok reply
answered w e reply (inl p) = absurd (let impossible : ◌≡◌ {A = Answer} (Ok reply) (Err (Refused OutOfMemory)) = p in cc)
answered w e reply (inr p) = sym p

last_pushed : (trace : List Call) (call : Call) → last_call (trace ++ call ∷ []) ≡ Some call
last_pushed trace call =
    let size : length (trace ++ call ∷ []) ≡ length trace + 1 = length_push trace call in
    let last : length (trace ++ call ∷ []) - 1 ≡ length trace = omega (arith, size) in
    ap (slice_get (trace ++ call ∷ [])) last ∙ get_last trace call

pub recorded : (w new : WorldValue) (e : EventValue) (reply : Answered) → answer w e ≡ Ok reply → new ≡ world_after w e
    → Some (answer w e) ≡ option_map (λ (r : Answered). Ok r) (last_reply new (node_asked e))
recorded w new e reply told is =
    let by = accepts w e reply told in
    let k = by.0 in
    let ask = by.1 in
    let after : Kept = after_call k ask (words_given e) in
    let nodes = ap (λ (w : WorldValue). w.nodes) (is ∙ accepted_after w e k ask by.2) in
    let here : slice_get new.nodes (node_asked e) ≡ Some after =
    ap (λ ns. slice_get ns (node_asked e)) nodes ∙ get_set_same w.nodes (node_asked e) after
    (get_below w.nodes (node_asked e) k by.2.there) in
    let last : last_reply new (node_asked e) ≡ Some (reply_to k ask (words_given e)) =
    ap (λ (o : Option Kept). option_map (λ (c : Call). c.reply) (option_and_then (λ (n : Kept). last_call n.trace) o))
    here
    ∙ ap (option_map (λ (c : Call). c.reply)) (last_pushed k.trace (entry_for k ask (words_given e))) in
    ap (λ (a : Answer). Some a) (accepted_answer w e k ask by.2) ∙ sym (ap (option_map (λ (r : Answered). Ok r)) last)
