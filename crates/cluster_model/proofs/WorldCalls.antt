-- What a call of one node comes to in its world.
use Rattle.std.proofs.Common.{◌≡◌, ℕ, false, inl, inr, List, [], ◌∷◌, ◌++◌, length, map, refl, sym, ◌∙◌, ap, subst, Some, None, Ok, Err}
use Rattle.std.proofs.lemmas.Bool.{true≢false}
use Rattle.std.proofs.lemmas.List.{append-nil, map-append}
use Rattle.std.specs.Prelude.{slice_get, slice_set}
use Rattle.node_calls.specs.declared.fault.NodeFault.{NodeFault}
use Rattle.node_calls.specs.Told.{AskTold, ReplyTold}
use Rattle.node_calls.specs.Told as told
use Rattle.node_calls.specs.Asks.{Asked, asked_first, asked_from, emit_of, message_of}
use Rattle.node_core.specs.Deliveries.{TellsDelta}
use Rattle.node_core.specs.Traces.{Kept, IsRefusalOf, after_call, entry_for, node_of, refusal, reply_to, emission_of, SendsDelta}
use Rattle.node_core.proofs.DeltaBytes.{delta_message_is}
use Rattle.node_core.proofs.RepliedDelta.{delta_read, delta_sends}
use Rattle.cluster_model.specs.declared.fault.WorldFault.TheVariants.{NoNode, NoMessage, Refused}
use Rattle.cluster_model.specs.declared.world.Place.{Place}
use Rattle.cluster_model.specs.Worlds.{sent}
use Rattle.cluster_model.specs.Events.{WorldValue, EventValue, calls, node_asked, words_given, has_message, call_asked, message_made, asked_by, answer_at, answer_to, refused_or, answer, world_after}
use Rattle.cluster_model.specs.Places.{IsPlace, IsWorld, message_at, world_of}
use Rattle.cluster_model.specs.Runs.{IsAnswer}
use Rattle.cluster_model.proofs.Lists.{get_below, get_set_same, get_last}
use Rattle.cluster_model.proofs.Placed.{messages_stay, message_is}
use Rattle.cluster_model.proofs.WorldSteps.{accepted_answer, accepted_after}

-- ---- no node, no message

pub no_node_answer : (w : WorldValue) (e : EventValue) → slice_get w.nodes (node_asked e) ≡ None →
    answer w e ≡ Err NoNode
unfolding answer
no_node_answer w e none = ap (answer_at w.messages e) none

pub no_message_answer : (w : WorldValue) (e : EventValue) (k : Kept) → slice_get w.nodes (node_asked e) ≡ Some k →
    asked_by w.messages k e ≡ None → answer w e ≡ Err NoMessage
unfolding answer
no_message_answer w e k there none = ap (answer_at w.messages e) there ∙ ap (answer_to k (words_given e)) none

pub refused_answer : (w : WorldValue) (e : EventValue) (k : Kept) (ask : Asked) →
    slice_get w.nodes (node_asked e) ≡ Some k → asked_by w.messages k e ≡ Some ask
    → (fault : NodeFault) → IsRefusalOf k ask (words_given e) fault → IsAnswer w e (Err (Refused fault))
unfolding answer
refused_answer w e k ask there asked fault (inl memory) = inl (ap (λ (f : NodeFault). Err (Refused f)) memory)
refused_answer w e k ask there asked fault (inr refused) =
    inr (sym (ap (answer_at w.messages e) there ∙ ap (answer_to k (words_given e)) asked ∙
    ap (λ r. refused_or r (reply_to k ask (words_given e))) refused))

-- ---- a call that neither makes nor brings a message

-- what it asks is settled before its reply, and it sends nothing
pub record IsSilent (k : Kept) (ask : AskTold) (a : Asked) : Type 0 where
  pub asked : call_asked k ask ≡ Some a
  pub replied : (reply : ReplyTold) → asked_from k.config.nodes ask reply ≡ a
  pub none : sent k.config.node (node_of k) (Some a) ≡ []
  pub sends : SendsDelta (node_of k) a

pub silent : (k : Kept) (ask : AskTold) → has_message ask ≡ false → IsSilent k ask (asked_first k.config.nodes ask)
silent k (told.sets name text) h = record { asked = refl; replied = λ r. refl; none = refl; sends = tt }
silent k (told.removes name) h = record { asked = refl; replied = λ r. refl; none = refl; sends = tt }
silent k (told.loads text) h = record { asked = refl; replied = λ r. refl; none = refl; sends = tt }
silent k (told.passes name) h = record { asked = refl; replied = λ r. refl; none = refl; sends = tt }
silent k (told.shifts name term to amount) h = record { asked = refl; replied = λ r. refl; none = refl; sends = tt }
silent k (told.grants name term amount) h = record { asked = refl; replied = λ r. refl; none = refl; sends = tt }
silent k (told.emits to) h = absurd (true≢false h)
silent k (told.delivers bytes) h = absurd (true≢false h)

module _ (nodes : List Kept) (places : List Place) (good : IsWorld nodes places) (e : EventValue) (k : Kept)
    (there : slice_get nodes (node_asked e) ≡ Some k) (ask : Asked) where
  abbrev w : WorldValue
  w = world_of nodes places

  abbrev nodes_after : List Kept
  nodes_after = slice_set nodes (node_asked e) (after_call k ask (words_given e))

  still : map (message_at nodes_after) places ≡ w.messages
  still = messages_stay nodes (node_asked e) k there ask (words_given e) places good.placed

  pub silent_after : asked_by w.messages k e ≡ Some ask → sent k.config.node (node_of k) (Some ask) ≡ [] →
      refusal k ask (words_given e) ≡ None
      → world_of nodes_after places ≡ world_after w e
  silent_after asked none agreed =
      sym (accepted_after w e k ask (record { there = there; asked = asked; agreed = agreed })
      ∙ ap (λ ms. record { nodes = nodes_after; messages = ms })
      (ap (λ ms. w.messages ++ ms) none ∙ append-nil w.messages ∙ sym still))

-- ---- a message

module _ (nodes : List Kept) (places : List Place) (good : IsWorld nodes places) (i to : ℕ) (words : List ℕ) (k : Kept)
    (there : slice_get nodes i ≡ Some k) (bytes : List ℕ) (delta : TellsDelta k to bytes) where
  abbrev world_before : WorldValue
  world_before = world_of nodes places

  abbrev event : EventValue
  event = calls i (told.emits to) words

  abbrev ask : Asked
  ask = emit_of to (Ok (message_made k to))

  pub emission_is : emission_of k to bytes ≡ ask
  emission_is = ap (emit_of to) (delta_read k to bytes delta ∙
      ap (λ m. Ok (message_of m)) (delta_message_is k to bytes delta))

  pub emission_sends : SendsDelta (node_of k) ask
  emission_sends = subst (λ (a : Asked). SendsDelta (node_of k) a) emission_is (delta_sends k to bytes delta)

  abbrev after : List Kept
  after = slice_set nodes i (after_call k ask words)

  abbrev place : Place
  place = record { node = i; entry = length k.trace }

  there_after : slice_get after i ≡ Some (after_call k ask words)
  there_after = get_set_same nodes i (after_call k ask words) (get_below nodes i k there)

  pub place_made : IsPlace after place
  place_made =
      record {
        node = after_call k ask words;
        there = there_after;
        emit = (
          message_made k to,
          record {
            call = entry_for k ask words;
            there =
                get_last k.trace (entry_for k ask words);
            reply = refl;
          },
        );
      }

  pub emitted_after : refusal k ask words ≡ None → world_of after (places ++ place ∷ []) ≡ world_after world_before
      event
  unfolding place_made
  emitted_after agreed =
      sym (accepted_after world_before event k ask (record { there = there; asked = refl; agreed = agreed })
      ∙ ap (λ ms. record { nodes = after; messages = ms }) (sym messages))
    where
      messages : map (message_at after) (places ++ place ∷ []) ≡ world_before.messages ++ message_made k to ∷ []
      messages =
          map-append (message_at after) places (place ∷ [])
          ∙ ap (λ ms. ms ++ message_at after place ∷ []) (messages_stay nodes i k there ask words places good.placed)
          ∙ ap (λ m. world_before.messages ++ m ∷ []) (message_is after place place_made)

  pub emitted_answer : refusal k ask words ≡ None → answer world_before event ≡ Ok (reply_to k ask words)
  emitted_answer agreed = accepted_answer world_before event k ask
      (record { there = there; asked = refl; agreed = agreed })
