-- An event of a world, where its node accepts it, and where not.
use Rattle.std.proofs.Common.{◌≡◌, ◌≢◌, ℕ, ◌<◌, arith, ◌⊎◌, inl, inr, List, [], ◌∷◌, ◌++◌, length, refl, sym, ◌∙◌, ap, subst, Option, Some, None, Ok, Err}
use Rattle.std.proofs.lemmas.Bool.{cases_eq}
use Rattle.std.proofs.lemmas.List.{length-set}
use Rattle.std.specs.Prelude.{slice_get, slice_set, option_map}
use Rattle.operations.specs.Operations.{IsIn}
use Rattle.node_calls.specs.declared.fault.NodeFault.{NodeFault}
use Rattle.node_steps.specs.Refusals.{refusal_at}
use Rattle.node_calls.specs.Asks.{Asked, Answered, Message, emit_of}
use Rattle.node_calls.specs.Asks as asks
use Rattle.node_calls.specs.Told as told
use Rattle.node_steps.specs.Nodes.{Node}
use Rattle.node_core.specs.Traces.{Kept, after_call, node_of, refusal, reply_to, SendsDelta}
use Rattle.cluster_model.specs.declared.fault.WorldFault.TheVariants.{NoNode, NoMessage, Refused}
use Rattle.cluster_model.specs.Worlds.{Cluster, Event, config_of, accepted, sent, world}
use Rattle.cluster_model.specs.Schedules.{AllowsDelta}
use Rattle.cluster_model.specs.Laws.{kept}
use Rattle.cluster_model.specs.Events.{WorldValue, EventValue, message_made, calls, delivers, node_asked, words_given, asked_by, Answer, answer_at, answer_to, refused_or, answer, after_asked, after_at, world_after, scheduled_of, scheduled_at, scheduled}
use Rattle.cluster_model.specs.Runs.{HasHistory}
use Rattle.cluster_model.proofs.Lists.{get_below, get_set_same, get_set_other, get_in}
use Rattle.cluster_model.proofs.Replays.{node_is_replay, event_is_call, is_agreed}

-- the event of a schedule
abbrev pub event_of : EventValue → Asked → Event
event_of e ask = record { node = node_asked e; ask = ask; words = words_given e }

-- a node that accepts an event
pub record IsAccepted (w : WorldValue) (e : EventValue) (k : Kept) (ask : Asked) : Type 0 where
  pub there : slice_get w.nodes (node_asked e) ≡ Some k
  pub asked : asked_by w.messages k e ≡ Some ask
  pub agreed : refusal k ask (words_given e) ≡ None

module _ (w : WorldValue) (e : EventValue) (k : Kept) (ask : Asked) (is : IsAccepted w e k ask) where
  pub accepted_answer : answer w e ≡ Ok (reply_to k ask (words_given e))
  unfolding answer
  accepted_answer =
      ap (answer_at w.messages e) is.there
      ∙ ap (answer_to k (words_given e)) is.asked
      ∙ ap (λ r. refused_or r (reply_to k ask (words_given e))) is.agreed

  pub accepted_after : world_after w e
      ≡ record {
        nodes = slice_set w.nodes (node_asked e) (after_call k ask (words_given e));
        messages = w.messages ++
            sent k.config.node (node_of k) (Some ask);
      }
  unfolding world_after
  accepted_after = ap (after_at w e) is.there ∙ ap (after_asked w e k) is.asked

  pub accepted_scheduled : scheduled w e ≡ event_of e ask ∷ []
  unfolding scheduled
  accepted_scheduled = ap (scheduled_at w.messages e) is.there ∙ ap (scheduled_of e) is.asked

-- who accepts, where the answer is a reply
pub accepts : (w : WorldValue) (e : EventValue) (reply : Answered) → answer w e ≡ Ok reply →
    (k : Kept) × (ask : Asked) × IsAccepted w e k ask
unfolding answer
accepts w e reply h = at (slice_get w.nodes (node_asked e)) refl h
  where
    refused : (k : Kept) (ask : Asked) → slice_get w.nodes (node_asked e) ≡ Some k →
        asked_by w.messages k e ≡ Some ask → (r : Option NodeFault) → refusal k ask (words_given e) ≡ r
        → refused_or r (reply_to k ask (words_given e)) ≡ Ok reply → (k : Kept) × (ask : Asked) × IsAccepted w e k ask
    refused k ask there asked None p q = (k, ask, record { there = there; asked = asked; agreed = p })
    refused k ask there asked (Some fault) p q = absurd (let impossible :
        ◌≡◌ {A = Answer} (Err (Refused fault)) (Ok reply) = q in cc)

    asks_it : (k : Kept) → slice_get w.nodes (node_asked e) ≡ Some k → (a : Option Asked) →
        asked_by w.messages k e ≡ a → answer_to k (words_given e) a ≡ Ok reply →
        (k : Kept) × (ask : Asked) × IsAccepted w e k ask
    asks_it k there None p q = absurd (let impossible : ◌≡◌ {A = Answer} (Err NoMessage) (Ok reply) = q in cc)
    asks_it k there (Some ask) p q = refused k ask there p (refusal k ask (words_given e)) refl q

    at : (o : Option Kept) → slice_get w.nodes (node_asked e) ≡ o → answer_at w.messages e o ≡ Ok reply →
        (k : Kept) × (ask : Asked) × IsAccepted w e k ask
    at None p q = absurd (let impossible : ◌≡◌ {A = Answer} (Err NoNode) (Ok reply) = q in cc)
    at (Some k) p q = asks_it k p (asked_by w.messages k e) refl q

-- ---- histories

module _ (c : Cluster) (past : List Event) (w : WorldValue) (has : HasHistory c past w) (e : EventValue) (k : Kept)
    (ask : Asked) (is : IsAccepted w e k ask) where
  abbrev i : ℕ
  i = node_asked e

  abbrev event : Event
  event = event_of e ask

  pub low : i < c.nodes
  low = let below = get_below w.nodes i k is.there in let size = has.size in omega (arith, below, size)

  pub kept_is : k ≡ kept c past i
  kept_is = let here = is.there in let there = has.nodes i low in let same :
      ◌≡◌ {A = Option Kept} (Some k) (Some (kept c past i)) = sym here ∙ there in cc

  agreed : refusal (kept c past i) ask event.words ≡ None
  agreed = subst (λ (k : Kept). refusal k ask event.words ≡ None) kept_is is.agreed

  pub accepts_it : accepted c (world c past) event i ≡ Some ask
  accepts_it = is_agreed c (world c past) event low (subst (λ (n : Node). refusal_at (config_of c i)
      (length ((world c past).trace i)) n ask event.words ≡ None) (sym (node_is_replay c past i)) agreed)

  nodes_after : (j : ℕ) → j < c.nodes → slice_get (slice_set w.nodes i (after_call k ask event.words)) j ≡ Some
      (kept c (event ∷ past) j)
  nodes_after j below = by_place (cases_eq j i)
    where
      by_place : (j ≡ i) ⊎ (j ≢ i) → slice_get (slice_set w.nodes i (after_call k ask event.words)) j ≡ Some
          (kept c (event ∷ past) j)
      by_place (inl same) =
          subst (λ (j : ℕ). slice_get (slice_set w.nodes i (after_call k ask event.words)) j ≡ Some
          (kept c (event ∷ past) j)) (sym same)
          (get_set_same w.nodes i _ (get_below w.nodes i k is.there)
          ∙ ap Some (ap (λ (k : Kept). after_call k ask event.words) kept_is ∙
          sym ((event_is_call c past event).accepted low agreed)))
      by_place (inr other) =
          get_set_other w.nodes i j _ other ∙ has.nodes j below ∙
          ap Some (sym ((event_is_call c past event).others j other))

  messages_after : w.messages ++ sent k.config.node (node_of k) (Some ask) ≡ (world c (event ∷ past)).messages
  messages_after =
      ap (λ (k : Kept). w.messages ++ sent k.config.node (node_of k) (Some ask)) kept_is
      ∙ ap (λ ms. ms ++ sent i (node_of (kept c past i)) (Some ask)) has.messages
      ∙ ap (λ (n : Node). (world c past).messages ++ sent i n (Some ask)) (sym (node_is_replay c past i))
      ∙ ap (λ (a : Option Asked). (world c past).messages ++ sent i ((world c past).node i) a) (sym accepts_it)

  allowed : SendsDelta (node_of k) ask → AllowsDelta (world c past) i (Some ask)
  allowed sends = of e is.asked (subst (λ (n : Node). SendsDelta n ask)
      (ap node_of kept_is ∙ sym (node_is_replay c past i)) sends)
    where
      delivered : (number : ℕ) (o : Option Message) → slice_get w.messages number ≡ o →
          option_map (λ m. asks.Deliver (Ok m)) o ≡ Some ask → AllowsDelta (world c past) i (Some ask)
      delivered number None p q = absurd (let impossible : ◌≡◌ {A = Option Asked} None (Some ask) = q in cc)
      delivered number (Some m) p q =
          let asked : asks.Deliver (Ok m) ≡ ask = cc in
          subst (λ (a : Asked). AllowsDelta (world c past) i (Some a)) asked
          (subst (λ ms. IsIn m ms) has.messages (get_in w.messages number m p))

      allows : (a : Asked) → a ≡ ask → AllowsDelta (world c past) i (Some a) → AllowsDelta (world c past) i (Some ask)
      allows a same given = subst (λ (a : Asked). AllowsDelta (world c past) i (Some a)) same given

      of : (e : EventValue) → asked_by w.messages k e ≡ Some ask → SendsDelta ((world c past).node i) ask →
          AllowsDelta (world c past) i (Some ask)
      of (calls node (told.sets name text) words) p s = let is : asks.Set name text ≡ ask = cc in
          allows (asks.Set name text) is tt
      of (calls node (told.removes name) words) p s = let is : asks.Remove name ≡ ask = cc in
          allows (asks.Remove name) is tt
      of (calls node (told.loads text) words) p s = let is : asks.Load text ≡ ask = cc in allows (asks.Load text) is tt
      of (calls node (told.passes name) words) p s = let is : asks.Pass name ≡ ask = cc in allows (asks.Pass name) is tt
      of (calls node (told.shifts name term to amount) words) p s = let is :
          asks.Shift name term to amount ≡ ask = cc in allows (asks.Shift name term to amount) is tt
      of (calls node (told.grants name term amount) words) p s = let is : asks.Grant name term amount ≡ ask = cc in
          allows (asks.Grant name term amount) is tt
      of (calls node (told.emits to) words) p s =
          let asked : emit_of to (Ok (message_made k to)) ≡ ask = cc in
          allows (emit_of to (Ok (message_made k to))) asked
          (subst (λ (a : Asked). SendsDelta ((world c past).node i) a) (sym asked) s)
      of (calls node (told.delivers bytes) words) p s = absurd
          (let impossible : ◌≡◌ {A = Option Asked} None (Some ask) = p in cc)
      of (delivers node number) p s = delivered number (slice_get w.messages number) refl p

  pub goes_on : SendsDelta (node_of k) ask → HasHistory c (scheduled w e ++ past) (world_after w e)
  goes_on sends =
      subst (λ (es : List Event). HasHistory c (es ++ past) (world_after w e)) (sym (accepted_scheduled w e k ask is))
      (subst (λ (w : WorldValue). HasHistory c (event ∷ past) w) (sym (accepted_after w e k ask is))
      record {
        few = has.few;
        size = length-set w.nodes i _ ∙ has.size;
        nodes = nodes_after;
        messages = messages_after;
        schedule = (
          subst (λ (a : Option Asked). AllowsDelta (world c past) i a) (sym accepts_it) (allowed sends),
          has.schedule,
        );
      })
