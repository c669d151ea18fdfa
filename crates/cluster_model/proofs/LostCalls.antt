-- A schedule without the calls that a node lost.
use Rattle.std.proofs.Common.{◌≡◌, ◌≢◌, ℕ, ◌+◌, ◌<◌, ◌≤◌, ◌==◌, ◌&&◌, Bool, true, false, arith, List, [], ◌∷◌, ◌++◌, length, take, ◌⊎◌, inl, inr, refl, sym, ◌∙◌, ap, subst, ⊎_elim, Option, Some, None, Result}
use Rattle.std.proofs.lemmas.Bool.{eqb-true, leb-true, and_from, and_parts, true≢false}
use Rattle.std.proofs.lemmas.Bool.Decides.{eqb_tells, leb_tells}
use Rattle.std.proofs.lemmas.List.{append-nil, append_assoc, length-append, take_all, take-append-le}
use Rattle.std.specs.Prelude.{nat_le, nat_lt, is_none, if◌then◌else◌}
use Rattle.operations.specs.Operations.{IsIn}
use Rattle.operations.proofs.Members.{IsIn-append_left, IsIn-append_right, IsIn-append_cases}
use Rattle.message_format.specs.declared.fault.WireFault.{WireFault}
use Rattle.node_calls.specs.Asks.{Asked, Call, Message}
use Rattle.node_calls.specs.Asks as asks
use Rattle.node_steps.specs.Nodes.{Node}
use Rattle.node_steps.specs.Refusals.{message_in, refusal_at}
use Rattle.node_core.specs.Steps.{reply}
use Rattle.node_core.specs.Traces.{Kept, replay}
use Rattle.cluster_model.specs.Laws.{IsToldBy}
use Rattle.cluster_model.specs.Worlds.{Cluster, Event, World, accepted, config_of, sent, trace_after, world}
use Rattle.cluster_model.proofs.Replays.{node_is_replay, event_is_call}
use Rattle.cluster_model.proofs.Replies.{messages_are_replies}
use Rattle.cluster_model.specs.Lives.{without_lost}

-- ---- what an event does to a trace, by the trace alone

abbrev pub accepts : Cluster → Event → ℕ → List Call → Node → Option Asked
accepts c e i trace n =
    if nat_lt e.node c.nodes
    && (i == e.node && is_none (refusal_at (config_of c i) (length trace) n e.ask e.words))
    then Some e.ask else None

abbrev pub grown : Cluster → Event → ℕ → List Call → List Call
grown c e i trace = trace_after i (replay i trace) trace (accepts c e i trace (replay i trace)) e.words

pub trace_grown : (c : Cluster) (es : List Event) (e : Event) (i : ℕ) →
    (world c (e ∷ es)).trace i ≡ grown c e i ((world c es).trace i)
trace_grown c es e i =
    ap (λ (n : Node). trace_after i n ((world c es).trace i) (accepts c e i ((world c es).trace i) n) e.words)
    (node_is_replay c es i)

pub record IsMore (before after : List Call) : Type 0 where
  pub rest : List Call
  pub is : after ≡ before ++ rest
  pub few : length rest ≤ 1

pub one_more : (i : ℕ) (n : Node) (trace : List Call) (a : Option Asked) (words : List ℕ) →
    IsMore trace (trace_after i n trace a words)
one_more i n trace None words = record { rest = []; is = sym (append-nil trace); few = omega arith }
one_more i n trace (Some ask) words = record { rest = _; is = refl; few = omega arith }

pub more : (c : Cluster) (es : List Event) (e : Event) (i : ℕ) →
    IsMore ((world c es).trace i) ((world c (e ∷ es)).trace i)
more c es e i = one_more i ((world c es).node i) ((world c es).trace i) (accepted c (world c es) e i) e.words

pub stays : (c : Cluster) (es : List Event) (e : Event) (i : ℕ) → i ≢ e.node →
    (world c (e ∷ es)).trace i ≡ (world c es).trace i
stays c es e i other = ap (λ (k : Kept). k.trace) ((event_is_call c es e).others i other)

-- ---- the world without what node i lost

module _ (c : Cluster) (i k : ℕ) where
  abbrev left : List Event → List Event
  left es = without_lost c i k es

  abbrev is_lost : Event → List Event → Bool
  is_lost e es = e.node == i && nat_le k (length ((world c es).trace i))

  lost_parts : (e : Event) (es : List Event) → is_lost e es ≡ true →
      (e.node ≡ i) × (k ≤ length ((world c es).trace i))
  lost_parts e es p =
      let parts = and_parts (e.node == i) _ p in
      (eqb-true e.node i parts.0, leb-true k (length ((world c es).trace i)) parts.1)

  short : (e : Event) (es : List Event) → is_lost e es ≡ false → (e.node == i) ≡ true →
      length ((world c es).trace i) < k
  short e es p here = at (leb_tells k (length ((world c es).trace i)))
    where
      at : ((nat_le k (length ((world c es).trace i)) ≡ true) × (k ≤ length ((world c es).trace i)))
          ⊎ ((nat_le k (length ((world c es).trace i)) ≡ false) × (length ((world c es).trace i) < k)) →
          length ((world c es).trace i) < k
      at (inl long) = absurd (true≢false (sym (and_from _ _ here long.0) ∙ p))
      at (inr low) = low.1

  pub others : (es : List Event) (j : ℕ) → j ≢ i → (world c (left es)).trace j ≡ (world c es).trace j
  others [] j other = refl
  others (e ∷ es) j other = at (others es j other) (is_lost e es) refl
    where
      at : (world c (left es)).trace j ≡ (world c es).trace j → (b : Bool) → is_lost e es ≡ b →
          (world c (if b then left es else e ∷ left es)).trace j ≡ (world c (e ∷ es)).trace j
      at same_then true p =
          let here = (lost_parts e es p).0 in
          same_then ∙ sym (stays c es e j (λ same. other (same ∙ here)))
      at same_then false p =
          trace_grown c (left es) e j ∙ ap (grown c e j) same_then ∙ sym (trace_grown c es e j)

  pub own : (es : List Event) → (world c (left es)).trace i ≡ take k ((world c es).trace i)
  own [] = sym (take_all k [] (omega arith))
  own (e ∷ es) = at (own es) (is_lost e es) refl
    where
      trace : List Call
      trace = (world c es).trace i

      next : List Call
      next = (world c (e ∷ es)).trace i

      grows : IsMore trace next
      grows = more c es e i

      at : (world c (left es)).trace i ≡ take k trace → (b : Bool) → is_lost e es ≡ b →
          (world c (if b then left es else e ∷ left es)).trace i ≡ take k next
      at was true p =
          let long = (lost_parts e es p).1 in
          was ∙ sym (take-append-le k trace grows.rest long) ∙ ap (take k) (sym grows.is)
      at was false p = by (eqb_tells e.node i)
        where
          by : (((e.node == i) ≡ true) × (e.node ≡ i)) ⊎ (((e.node == i) ≡ false) × (e.node ≢ i)) →
              (world c (e ∷ left es)).trace i ≡ take k next
          by (inl here) =
              let low = short e es p here.0 in
              let long : length next ≡ length trace + length grows.rest =
              ap length grows.is ∙ length-append trace grows.rest in
              let few = grows.few in
              trace_grown c (left es) e i
              ∙ ap (grown c e i) (was ∙ take_all k trace (omega (arith, low)))
              ∙ sym (trace_grown c es e i) ∙ sym (take_all k next (omega (arith, low, long, few)))
          by (inr other) =
              let ne : i ≢ e.node = λ same. other.1 (sym same) in
              stays c (left es) e i ne ∙ was ∙ ap (take k) (sym (stays c es e i ne))

  -- the node of an event that isn't lost is what it was
  pub kept_trace : (e : Event) (es : List Event) → is_lost e es ≡ false →
      (world c (left es)).trace e.node ≡ (world c es).trace e.node
  kept_trace e es p = by (eqb_tells e.node i)
    where
      by : (((e.node == i) ≡ true) × (e.node ≡ i)) ⊎ (((e.node == i) ≡ false) × (e.node ≢ i)) →
          (world c (left es)).trace e.node ≡ (world c es).trace e.node
      by (inl here) =
          let low = short e es p here.0 in
          subst (λ j. (world c (left es)).trace j ≡ (world c es).trace j) (sym here.1)
          (own es ∙ take_all k ((world c es).trace i) (omega (arith, low)))
      by (inr other) = others es e.node other.1

  pub same_node : (es : List Event) (j : ℕ) → (world c (left es)).trace j ≡ (world c es).trace j →
      (world c (left es)).node j ≡ (world c es).node j
  same_node es j same = node_is_replay c (left es) j ∙ ap (replay j) same ∙ sym (node_is_replay c es j)

  abbrev asked_at : Event → List Event → Option Asked
  asked_at e es = accepted c (world c es) e e.node

  pub same_asked : (e : Event) (es : List Event) → is_lost e es ≡ false → asked_at e (left es) ≡ asked_at e es
  same_asked e es p =
      let trace = kept_trace e es p in
      ap (λ (n : Node). accepts c e e.node ((world c (left es)).trace e.node) n) (same_node es e.node trace)
      ∙ ap (λ (t : List Call). accepts c e e.node t ((world c es).node e.node)) trace

  pub messages_left : (es : List Event) (m : Message) → IsIn m (world c (left es)).messages →
      IsIn m (world c es).messages
  messages_left [] m h = h
  messages_left (e ∷ es) m h = at (messages_left es m) (is_lost e es) refl h
    where
      at : (IsIn m (world c (left es)).messages → IsIn m (world c es).messages) → (b : Bool) → is_lost e es ≡ b → IsIn m (world c (if b then left es else e ∷ left es)).messages →
          IsIn m (world c (e ∷ es)).messages
      at was true p held = IsIn-append_left m (world c es).messages _ (was held)
      at was false p held =
          let node = same_node es e.node (kept_trace e es p) in
          let same : sent e.node ((world c (left es)).node e.node) (asked_at e (left es))
          ≡ sent e.node ((world c es).node e.node) (asked_at e es) =
          ap (λ (n : Node). sent e.node n (asked_at e (left es))) node
          ∙ ap (sent e.node ((world c es).node e.node)) (same_asked e es p) in
          ⊎_elim (λ q. IsIn-append_left m (world c es).messages _ (was q))
          (λ q. IsIn-append_right m (world c es).messages _ (subst (λ l. IsIn m l) same q))
          (IsIn-append_cases m (world c (left es)).messages _ held)

  -- ---- it is a schedule

  -- what is told by a trace and by the first calls of a longer one is told by the first calls of the trace
  told_by_both : (trace rest : List Call) (m : Message) → IsToldBy trace m → IsToldBy (take k (trace ++ rest)) m →
      IsToldBy (take k trace) m
  told_by_both trace rest m now after = by (leb_tells k (length trace))
    where
      by : ((nat_le k (length trace) ≡ true) × (k ≤ length trace))
          ⊎ ((nat_le k (length trace) ≡ false) × (length trace < k)) → IsToldBy (take k trace) m
      by (inl low) = subst (λ t. IsToldBy t m) (take-append-le k trace rest low.1) after
      by (inr high) =
          let over = high.1 in
          subst (λ t. IsToldBy t m) (sym (take_all k trace (omega (arith, over)))) now

  -- what was delivered of node i is told by its first calls
  abbrev pub AreHeld : List Call → List Event → Type 0
  AreHeld all fs = (j : ℕ) (call : Call) (read : Result Message WireFault) → IsIn call ((world c fs).trace j) →
      call.ask ≡ asks.Deliver read → (message_in read).from ≡ i → IsToldBy (take k all) (message_in read)

  module _ (May : World → ℕ → Option Asked → Type 0) (Are : List Event → Type 0) (begins : Are [])
      (first : (e : Event) (es : List Event) → Are (e ∷ es) → May (world c es) e.node (asked_at e es))
      (before : (e : Event) (es : List Event) → Are (e ∷ es) → Are es)
      (goes_on : (e : Event) (es : List Event) → May (world c es) e.node (asked_at e es) → Are es → Are (e ∷ es))
      (local : (w v : World) (j : ℕ) (a : Option Asked) → w.node j ≡ v.node j →
      ((read : Result Message WireFault) → a ≡ Some (asks.Deliver read) → IsIn (message_in read) w.messages →
      IsIn (message_in read) v.messages) → May w j a → May v j a) where
    still_may : (all rest : List Call) (e : Event) (es : List Event) → is_lost e es ≡ false →
        all ≡ (world c es).trace i ++ rest →
        ((read : Result Message WireFault) → asked_at e es ≡ Some (asks.Deliver read) →
        (message_in read).from ≡ i → IsToldBy (take k all) (message_in read)) →
        May (world c es) e.node (asked_at e es) → May (world c (left es)) e.node (asked_at e (left es))
    still_may all rest e es p prefix held may =
        subst (λ (a : Option Asked). May (world c (left es)) e.node a) (sym (same_asked e es p))
        (local (world c es) (world c (left es)) e.node (asked_at e es)
        (sym (same_node es e.node (kept_trace e es p))) sent_before may)
      where
        sent_before : (read : Result Message WireFault) → asked_at e es ≡ Some (asks.Deliver read) →
            IsIn (message_in read) (world c es).messages → IsIn (message_in read) (world c (left es)).messages
        sent_before read is made = (back (by (eqb_tells m.from i))).0
          where
            m : Message
            m = message_in read

            told : IsToldBy ((world c es).trace m.from) m
            told = (messages_are_replies c es m.from m).0 (made, refl)

            back : IsToldBy ((world c (left es)).trace m.from) m →
                IsIn m (world c (left es)).messages × (m.from ≡ m.from)
            back = (messages_are_replies c (left es) m.from m).1

            by : (((m.from == i) ≡ true) × (m.from ≡ i)) ⊎ (((m.from == i) ≡ false) × (m.from ≢ i)) →
                IsToldBy ((world c (left es)).trace m.from) m
            by (inl here) =
                subst (λ j. IsToldBy ((world c (left es)).trace j) m) (sym here.1)
                (subst (λ t. IsToldBy t m) (sym (own es))
                (told_by_both ((world c es).trace i) rest m
                (subst (λ j. IsToldBy ((world c es).trace j) m) here.1 told)
                (subst (λ t. IsToldBy (take k t) m) prefix (held read is here.1))))
            by (inr other) = subst (λ t. IsToldBy t m) (sym (others es m.from other.1)) told

    pub is_left : (all rest : List Call) (es : List Event) → all ≡ (world c es).trace i ++ rest → AreHeld all (left es) →
        Are es → Are (left es)
    is_left all rest [] prefix held are = begins
    is_left all rest (e ∷ es) prefix held are =
        at (λ h. is_left all (grows.rest ++ rest) es prefix_then h (before e es are)) (is_lost e es) refl
      where
        grows : IsMore ((world c es).trace i) ((world c (e ∷ es)).trace i)
        grows = more c es e i

        prefix_then : all ≡ (world c es).trace i ++ (grows.rest ++ rest)
        prefix_then = prefix ∙ ap (λ (t : List Call). t ++ rest) grows.is
            ∙ append_assoc ((world c es).trace i) grows.rest rest

        chosen : (b : Bool) → is_lost e es ≡ b → AreHeld all (if b then left es else e ∷ left es)
        chosen b p = subst (λ (b : Bool). AreHeld all (if b then left es else e ∷ left es)) p held

        earlier : AreHeld all (e ∷ left es) → AreHeld all (left es)
        earlier told j call read h =
            let grew = more c (left es) e j in
            told j call read (subst (λ t. IsIn call t) (sym grew.is)
            (IsIn-append_left call ((world c (left es)).trace j) grew.rest h))

        -- a delivery that isn't lost is among the calls that are left
        delivered : is_lost e es ≡ false → AreHeld all (e ∷ left es) → (read : Result Message WireFault) →
            asked_at e es ≡ Some (asks.Deliver read) → (message_in read).from ≡ i →
            IsToldBy (take k all) (message_in read)
        delivered p told read is from =
            let now = same_asked e es p ∙ is in
            let call : Call =
            record {
              ask = asks.Deliver read;
              words = e.words;
              reply = reply e.node ((world c (left es)).node e.node) (asks.Deliver read) e.words;
            } in
            told e.node call read
            (subst (λ (a : Option Asked). IsIn call (trace_after e.node ((world c (left es)).node e.node)
            ((world c (left es)).trace e.node) a e.words)) (sym now)
            (IsIn-append_right call ((world c (left es)).trace e.node) (call ∷ []) (inl refl))) refl from

        at : (AreHeld all (left es) → Are (left es)) → (b : Bool) → is_lost e es ≡ b →
            Are (if b then left es else e ∷ left es)
        at was true p = was (chosen true p)
        at was false p =
            let told = chosen false p in
            goes_on e (left es)
            (still_may all (grows.rest ++ rest) e es p prefix_then (delivered p told) (first e es are))
            (was (earlier told))
