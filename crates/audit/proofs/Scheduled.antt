-- Orders of places as schedules of the cluster, and back.
use Rattle.std.proofs.Common.{◌≡◌, inl, inr, ℕ, zero, suc, ◌+◌, ◌-◌, ◌^◌, ◌<◌, ◌≤◌, Bool, true, false, List, [], ◌∷◌, ◌++◌, length, map, take, reverse, Option, Some, None, Result, Ok, Err, refl, sym, ◌∙◌, ap, subst, arith, slice_get}
use Rattle.std.specs.Prelude.{option_and_then}
use Rattle.std.proofs.lemmas.Bool.Decides.{leb_tells}
use Rattle.std.proofs.lemmas.List.{reverse-reverse, map-append, length-map}
use Rattle.refusals.specs.Refusals.{first_fault}
use Rattle.counters.specs.Sums.{node_numbers}
use Rattle.operations.specs.Operations.{IsIn}
use Rattle.message_format.specs.declared.fault.WireFault.{WireFault}
use Rattle.node_steps.specs.declared.config.Config.{Config}
use Rattle.node_calls.specs.declared.fault.NodeFault.{NodeFault}
use Rattle.node_calls.specs.Told.{Told, AskTold, ReplyTold}
use Rattle.node_calls.specs.Told as tells
use Rattle.node_calls.specs.Asks.{Asked, Answered, Call, Message, answered_from, asked_from, call_from, emit_asked_by, emit_of, message_read}
use Rattle.node_calls.specs.Asks as asks
use Rattle.node_steps.specs.Nodes.{Node, start}
use Rattle.node_steps.specs.Refusals.{message_in, refusal_at, no_entry, too_many_told, spare_words, faults_of_message}
use Rattle.node_core.specs.Traces.{Kept, replay, SendsDelta, IsLegal}
use Rattle.cluster_model.specs.Worlds.{Cluster, World, Event, cluster_of, config_of, accepted, world}
use Rattle.cluster_model.specs.Schedules.{AllowsDelta, IsDeltaSchedule}
use Rattle.message_format.specs.Limits.{max_nodes}
use Rattle.cluster_model.specs.Laws.{EscrowHolds}
use Rattle.cluster_model.proofs.Closed.{deltas_are_schedules}
use Rattle.cluster_model.proofs.Conserved.{conserved}
use Rattle.cluster_model.proofs.Replays.{node_is_replay, event_is_call, is_agreed, traces_are_legal}
use Rattle.cluster_model.proofs.Replies.{messages_are_replies}
use Rattle.audit.specs.Messages.{bytes_emitted, emitted_by, delivered_by}
use Rattle.audit.specs.Traces.{Traces, trace_of, entry_at, IsSized, audited, AllLegal, AreShort}
use Rattle.audit.specs.Schedules.{event_of, events_of, SomeFits}
use Rattle.audit.specs.Places.{count_at, emitted_at, IsSent, IsReady, IsRun, Fits, IsOrder, steps_at}
use Rattle.audit.proofs.Runs.{count_cases, trace_past, entry_within}
use Rattle.audit.proofs.LegalCalls.{legal_at, legal_short, legal_wider}
use Rattle.node_core.specs.Resumed.{IsLegalCall}
use Rattle.audit.proofs.Steps.{take_whole, step_of, steps_more, entries_taken, fed_of_run, sent_from, places_of, count_entries, run_of_steps}
use Rattle.node_core.proofs.Repeated.{take_map, take_one_more}

-- ---- lists

get_map : (f : Told → Call) (xs : List Told) (k : ℕ) (x : Told) → slice_get xs k ≡ Some x →
    slice_get (map f xs) k ≡ Some (f x)
get_map f [] k x is = absurd (cc is)
get_map f (y ∷ ys) zero x is = let same : y ≡ x = cc is in ap (λ z. Some (f z)) same
get_map f (y ∷ ys) (suc k) x is = get_map f ys k x is

length_taken : (f : Told → Call) (xs : List Told) (k : ℕ) (x : Told) → slice_get xs k ≡ Some x →
    length (map f (take k xs)) ≡ k
length_taken f [] k x is = absurd (cc is)
length_taken f (y ∷ ys) zero x is = refl
length_taken f (y ∷ ys) (suc k) x is = let rest = length_taken f ys k x is in omega (arith, rest)

in_taken : (f : Told → Call) (xs : List Told) (k i : ℕ) (x : Told) → slice_get xs i ≡ Some x → i < k →
    IsIn (f x) (map f (take k xs))
in_taken f [] k i x is below = absurd (cc is)
in_taken f (y ∷ ys) zero i x is below = absurd (omega (arith, below))
in_taken f (y ∷ ys) (suc k) zero x is below = inl (let same : y ≡ x = cc is in ap f (sym same))
in_taken f (y ∷ ys) (suc k) (suc i) x is below = inr (in_taken f ys k i x is (omega (arith, below)))

-- ---- deliveries

is_delivery : Asked → Bool
is_delivery (asks.Deliver read) = true
is_delivery _ = false

no_delivery_of : (to : ℕ) (read : Result Message WireFault) → is_delivery (emit_of to read) ≡ false
unfolding is_delivery
no_delivery_of to (Ok m) = refl
no_delivery_of to (Err fault) = refl

no_delivery : (nodes to : ℕ) (reply : ReplyTold) → is_delivery (emit_asked_by nodes to reply) ≡ false
unfolding is_delivery
no_delivery nodes to (tells.was_emitted bytes) = no_delivery_of to (message_read nodes bytes)
no_delivery nodes to (tells.was_set stamp) = refl
no_delivery nodes to (tells.was_removed stamp) = refl
no_delivery nodes to (tells.was_loaded entries) = refl
no_delivery nodes to (tells.was_passed passed) = refl
no_delivery nodes to (tells.was_shifted total) = refl
no_delivery nodes to (tells.was_granted total) = refl
no_delivery nodes to (tells.was_delivered changed) = refl

-- an ask of a delivery brings what its bytes are read as
record IsBrought (nodes : ℕ) (ask : AskTold) (read : Result Message WireFault) : Type 0 where
  pub bytes : List ℕ
  pub is : delivered_by ask ≡ Some bytes
  pub brings : read ≡ message_read nodes bytes

received : (nodes : ℕ) (ask : AskTold) (reply : ReplyTold) (read : Result Message WireFault) →
    asked_from nodes ask reply ≡ asks.Deliver read → IsBrought nodes ask read
unfolding is_delivery
received nodes (tells.delivers bytes) reply read h =
    let same : message_read nodes bytes ≡ read = cc in
    record { bytes = bytes; is = refl; brings = sym same }
received nodes (tells.emits to) reply read h =
    let one : is_delivery (emit_asked_by nodes to reply) ≡ true = ap is_delivery h in
    let other : is_delivery (emit_asked_by nodes to reply) ≡ false = no_delivery nodes to reply in
    absurd (let impossible : true ≡ false = sym one ∙ other in cc)
received nodes (tells.sets name text) reply read h = absurd (let impossible : ⊥ = cc in impossible)
received nodes (tells.removes name) reply read h = absurd (let impossible : ⊥ = cc in impossible)
received nodes (tells.loads text) reply read h = absurd (let impossible : ⊥ = cc in impossible)
received nodes (tells.passes name) reply read h = absurd (let impossible : ⊥ = cc in impossible)
received nodes (tells.shifts name term to amount) reply read h = absurd (let impossible : ⊥ = cc in impossible)
received nodes (tells.grants name term amount) reply read h = absurd (let impossible : ⊥ = cc in impossible)

-- a delivery that is accepted is of a message
read_ok : (config : Config) (entries : ℕ) (n : Node) (read : Result Message WireFault) (words : List ℕ) →
    refusal_at config entries n (asks.Deliver read) words ≡ None →
    (m : Message) × (read ≡ Ok m)
read_ok config entries n (Ok m) words h = (m, refl)
read_ok config entries n (Err fault) words h = absurd (at (no_entry config entries) (too_many_told config n (Err fault))
    (spare_words words) h)
  where
    at : (a b d : Option NodeFault) → first_fault (a ∷ b ∷ d ∷ faults_of_message config n (Err fault)) ≡ None → ⊥
    at (Some x) b d h = cc
    at None (Some x) d h = cc
    at None None (Some x) h = cc
    at None None None h = cc

allowed : (w : World) (i : ℕ) (ask : Asked) → SendsDelta (w.node i) ask →
    ((read : Result Message WireFault) → ask ≡ asks.Deliver read → IsIn (message_in read) w.messages) →
    AllowsDelta w i (Some ask)
allowed w i (asks.Emit to versions chosen) sends given = sends
allowed w i (asks.Deliver read) sends given = given read refl
allowed w i (asks.Set name text) sends given = tt
allowed w i (asks.Remove name) sends given = tt
allowed w i (asks.Load text) sends given = tt
allowed w i (asks.Pass name) sends given = tt
allowed w i (asks.Shift name term to amount) sends given = tt
allowed w i (asks.Grant name term amount) sends given = tt

replied : (nodes : ℕ) (reply : ReplyTold) (bytes : List ℕ) → emitted_by reply ≡ Some bytes →
    answered_from nodes reply ≡ asks.IsEmitted (message_read nodes bytes)
replied nodes (tells.was_emitted given) bytes h =
    let same : given ≡ bytes = cc in
    ap (λ b. asks.IsEmitted (message_read nodes b)) same
replied nodes (tells.was_set stamp) bytes h = absurd (let impossible : ⊥ = cc in impossible)
replied nodes (tells.was_removed stamp) bytes h = absurd (let impossible : ⊥ = cc in impossible)
replied nodes (tells.was_loaded entries) bytes h = absurd (let impossible : ⊥ = cc in impossible)
replied nodes (tells.was_passed passed) bytes h = absurd (let impossible : ⊥ = cc in impossible)
replied nodes (tells.was_shifted total) bytes h = absurd (let impossible : ⊥ = cc in impossible)
replied nodes (tells.was_granted total) bytes h = absurd (let impossible : ⊥ = cc in impossible)
replied nodes (tells.was_delivered changed) bytes h = absurd (let impossible : ⊥ = cc in impossible)

record HasEmitted (traces : Traces) (node index : ℕ) (bytes : List ℕ) : Type 0 where
  pub entry : Told
  pub there : entry_at traces node index ≡ Some entry
  pub is : emitted_by entry.reply ≡ Some bytes

has_emitted : (traces : Traces) (node index : ℕ) (bytes : List ℕ) → emitted_at traces node index ≡ Some bytes →
    HasEmitted traces node index bytes
has_emitted traces node index bytes h = at (entry_at traces node index) refl h
  where
    at : (o : Option Told) → entry_at traces node index ≡ o → option_and_then bytes_emitted o ≡ Some bytes →
        HasEmitted traces node index bytes
    at (Some entry) p q = record { entry = entry; there = p; is = q }
    at None p q = absurd (let impossible : ⊥ = cc in impossible)

abbrev with_trace : Config → List Call → Kept
with_trace config trace = record { config = config; trace = trace; from = 0 }

-- ---- from places to a schedule

module _ (nodes : ℕ) (traces : Traces) (sized : IsSized nodes traces) (legal : AllLegal nodes traces) where
  abbrev c : Cluster
  c = audited nodes

  abbrev events : List (ℕ × ℕ) → List Event
  events placed = events_of nodes (steps_at traces placed)

  -- so far the world is what the places say
  pub record IsUp (placed : List (ℕ × ℕ)) : Type 0 where
    pub told : (i : ℕ) → (world c (events placed)).trace i ≡ map (call_from nodes)
        (take (count_at i placed) (trace_of traces i))
    pub schedule : IsDeltaSchedule c (events placed)

  sent_message : (placed : List (ℕ × ℕ)) → IsRun traces placed → IsUp placed → (bytes : List ℕ) (m : Message) →
      IsSent traces placed bytes → message_read nodes bytes ≡ Ok m →
      IsIn m (world c (events placed)).messages
  unfolding entry_at
  sent_message placed run up bytes m sent read =
      let from = sent_from traces placed run bytes sent in
      let emit = has_emitted traces from.node from.index bytes from.is in
      let held : IsIn (call_from nodes emit.entry) (map (call_from nodes)
      (take (count_at from.node placed) (trace_of traces from.node))) =
      in_taken (call_from nodes) (trace_of traces from.node) (count_at from.node placed) from.index emit.entry
      emit.there from.inside in
      ((messages_are_replies c (events placed) from.node m).1 (record {
        call = call_from nodes emit.entry;
        held = subst (λ t. IsIn (call_from nodes emit.entry) t) (sym (up.told from.node)) held;
        reply = replied nodes emit.entry.reply bytes emit.is ∙ ap asks.IsEmitted read;
      })).0

  -- one place more
  module _ (earlier : List (ℕ × ℕ)) (place : ℕ × ℕ) (run : IsRun traces (place ∷ earlier)) (up : IsUp earlier) where
    abbrev ready : IsReady traces earlier place
    ready = run.0

    abbrev es : List Event
    es = events earlier

    abbrev e : Event
    e = event_of nodes (step_of traces earlier place ready)

    abbrev next_call : Call
    next_call = call_from nodes ready.entry

    abbrev config : Config
    config = config_of c place.0

    abbrev so_far : List Call
    so_far = (world c es).trace place.0

    there : slice_get (trace_of traces place.0) place.1 ≡ Some ready.entry
    unfolding entry_at
    there = ready.there

    taken : so_far ≡ map (call_from nodes) (take place.1 (trace_of traces place.0))
    taken = up.told place.0 ∙ ap (λ k. map (call_from nodes) (take k (trace_of traces place.0))) (sym ready.next)

    pub is_legal : IsLegalCall config (length so_far) (replay place.0 so_far) next_call
    is_legal =
        let at = legal_at config 0 start (map (call_from nodes) (trace_of traces place.0)) place.1 next_call
        (legal place.0)
        (get_map (call_from nodes) (trace_of traces place.0) place.1 ready.entry there) in
        let first : 0 + place.1 ≡ place.1 = omega arith in
        let long : 0 + place.1 ≡ length so_far = first ∙ sym
        (ap (λ t. length t) taken ∙ length_taken (call_from nodes) (trace_of traces place.0) place.1 ready.entry
        there) in
        subst (λ k. IsLegalCall config k (replay place.0 so_far) next_call) long
        (subst (λ t. IsLegalCall config (0 + place.1) (replay place.0 t) next_call)
        (take_map (call_from nodes) (trace_of traces place.0) place.1 ∙ sym taken) at)

    pub low : place.0 < nodes
    low = elim (leb_tells (length traces) place.0) [
      | inl w ↦
          let inside : place.1 < length (trace_of traces place.0) =
          entry_within traces place.0 place.1 ready.entry ready.there in
          let none : length (trace_of traces place.0) ≡ 0 = ap (λ t. length t) (trace_past traces place.0 w.1) in
          absurd (omega (arith, inside, none))
      | inr w ↦ (let below : place.0 < length traces = w.1 in omega (arith, below, sized.each))
    ]

    pub now : (world c es).node place.0 ≡ replay place.0 so_far
    now = node_is_replay c es place.0

    agreed : refusal_at config (length so_far) ((world c es).node place.0) e.ask e.words ≡ None
    agreed = subst (λ n. refusal_at config (length so_far) n e.ask e.words ≡ None) (sym now) is_legal.agreed

    pub is_accepted : accepted c (world c es) e place.0 ≡ Some e.ask
    is_accepted = is_agreed c (world c es) e low agreed

    given : (read : Result Message WireFault) → e.ask ≡ asks.Deliver read → IsIn (message_in read) (world c es).messages
    given read is =
        let bring = received nodes ready.entry.ask ready.entry.reply read is in
        let ok = read_ok config (length so_far) ((world c es).node place.0) read e.words
        (subst (λ a. refusal_at config (length so_far) ((world c es).node place.0) a e.words ≡ None) is agreed) in
        let sent : IsSent traces earlier bring.bytes = ready.fed bring.bytes bring.is in
        subst (λ r. IsIn (message_in r) (world c es).messages) (sym ok.1)
        (sent_message earlier run.1 up bring.bytes ok.0 sent (sym bring.brings ∙ ok.1))

    allows : AllowsDelta (world c es) e.node (accepted c (world c es) e e.node)
    allows =
        subst (λ a. AllowsDelta (world c es) place.0 a) (sym is_accepted)
        (allowed (world c es) place.0 e.ask (subst (λ n. SendsDelta n e.ask) (sym now) is_legal.sends) given)

    grown : (world c (e ∷ es)).trace place.0 ≡ so_far ++ next_call ∷ []
    grown =
        ap (λ (k : Kept). k.trace) ((event_is_call c es e).accepted low is_legal.agreed)
        ∙ ap (λ r. so_far ++ record { ask = e.ask; words = e.words; reply = r } ∷ []) (sym is_legal.reply)

    told_here : (world c (e ∷ es)).trace place.0 ≡ map (call_from nodes) (take (suc place.1) (trace_of traces place.0))
    told_here =
        grown ∙ ap (λ t. t ++ next_call ∷ []) taken
        ∙ sym (map-append (call_from nodes) (take place.1 (trace_of traces place.0)) (ready.entry ∷ []))
        ∙ ap (λ t. map (call_from nodes) t) (sym (take_one_more (trace_of traces place.0) place.1 ready.entry there))

    told_next : (i : ℕ) → (world c (e ∷ es)).trace i ≡ map (call_from nodes)
        (take (count_at i (place ∷ earlier)) (trace_of traces i))
    told_next i = elim (count_cases i place earlier) [
      | inl w ↦
          let next : place.1 ≡ count_at place.0 earlier = ready.next in
          let same : count_at place.0 earlier ≡ count_at i earlier = ap (λ n. count_at n earlier) w.0 in
          let more : count_at i (place ∷ earlier) ≡ 1 + count_at i earlier = w.1 in
          let k : suc place.1 ≡ count_at i (place ∷ earlier) = omega (arith, next, same, more) in
          ap (λ n. (world c (e ∷ es)).trace n) (sym w.0) ∙ told_here
          ∙ ap (λ n. map (call_from nodes) (take (suc place.1) (trace_of traces n))) w.0
          ∙ ap (λ k. map (call_from nodes) (take k (trace_of traces i))) k
      | inr w ↦
          ap (λ (k : Kept). k.trace) ((event_is_call c es e).others i (λ same. w.0 (sym same)))
          ∙ up.told i ∙ ap (λ k. map (call_from nodes) (take k (trace_of traces i))) (sym w.1)
    ]

    is_up : IsUp (place ∷ earlier)
    is_up =
        let more : e ∷ es ≡ events (place ∷ earlier) = ap (λ s. events_of nodes s)
        (sym (steps_more traces earlier place ready)) in
        record {
          told = λ i. ap (λ l. (world c l).trace i) (sym more) ∙ told_next i;
          schedule = subst (λ l. IsDeltaSchedule c l) more (allows, up.schedule);
        }

  pub all_up : (placed : List (ℕ × ℕ)) → IsRun traces placed → IsUp placed
  all_up [] run = record { told = λ i. refl; schedule = tt }
  all_up (place ∷ earlier) run = is_up earlier place run (all_up earlier run.1)

  -- an order of places that fits is a schedule
  pub order_fits : (order : List (ℕ × ℕ)) → Fits traces order → IsOrder nodes traces order
  order_fits order fits =
      let placed = reverse order in
      let up = all_up (reverse order) fits.run in
      record {
        places = fits;
        schedule = record {
          schedule = up.schedule;
          fed = fed_of_run traces (reverse order) fits.run;
          told = λ i. up.told i ∙
              ap (λ t. map (call_from nodes) t) (sym (entries_taken traces (reverse order) fits.run i));
          whole = λ i. entries_taken traces (reverse order) fits.run i ∙
              ap (λ k. take k (trace_of traces i)) (fits.whole i) ∙ take_whole (trace_of traces i);
        };
      }

  pub some_fits : (order : List (ℕ × ℕ)) → Fits traces order → SomeFits nodes traces
  some_fits order fits = record {
    trace_cap = 2 ^ 32 - 1;
    small = omega arith;
    steps = steps_at traces (reverse order);
    fits = (order_fits order fits).schedule;
  }

-- ---- from a schedule to places

pub legal_of_fits : (nodes : ℕ) (traces : Traces) → SomeFits nodes traces → AllLegal nodes traces
legal_of_fits nodes traces some i =
    let c = cluster_of nodes some.trace_cap in
    let calls : (world c (events_of nodes some.steps)).trace i ≡ map (call_from nodes) (trace_of traces i) =
    some.fits.told i ∙ ap (λ t. map (call_from nodes) t) (some.fits.whole i) in
    let legal : IsLegal (config_of c i) (map (call_from nodes) (trace_of traces i)) =
    subst (λ t. IsLegal (config_of c i) t) calls (traces_are_legal c (events_of nodes some.steps) some.fits.schedule
    i) in
    let short : 0 + length (map (call_from nodes) (trace_of traces i)) ≤ some.trace_cap =
    legal_short (config_of c i) 0 start (map (call_from nodes) (trace_of traces i)) legal (omega arith) in
    let small : some.trace_cap < 2 ^ 32 = some.small in
    let great : 0 + length (map (call_from nodes) (trace_of traces i)) ≤ 2 ^ 32 - 1 = omega (arith, short, small) in
    legal_wider nodes i some.trace_cap (2 ^ 32 - 1) 0 start (map (call_from nodes) (trace_of traces i)) great legal

pub all_short : (nodes : ℕ) (traces : Traces) → AllLegal nodes traces → AreShort traces
all_short nodes traces legal n =
    let short : 0 + length (map (call_from nodes) (trace_of traces n)) ≤ 2 ^ 32 - 1 =
    legal_short (config_of (audited nodes) n) 0 start (map (call_from nodes) (trace_of traces n)) (legal n)
    (omega arith) in
    let same : length (map (call_from nodes) (trace_of traces n)) ≡ length (trace_of traces n) =
    length-map (trace_of traces n) (call_from nodes) in
    omega (arith, short, same)

few_numbers : (n : ℕ) → n ≤ max_nodes → n ≤ node_numbers
unfolding node_numbers
few_numbers n few = omega (arith, few)

-- in a schedule that fits no term was executed more often than it was counted and granted
pub escrow_of : (nodes : ℕ) (traces : Traces) → IsSized nodes traces → (order : List (ℕ × ℕ)) →
    IsOrder nodes traces order → EscrowHolds (audited nodes) (events_of nodes (steps_at traces (reverse order)))
escrow_of nodes traces sized order is =
    conserved (audited nodes) (events_of nodes (steps_at traces (reverse order))) (few_numbers nodes sized.few)
    (deltas_are_schedules (audited nodes) (events_of nodes (steps_at traces (reverse order))) is.schedule.schedule)

pub order_of_fits : (nodes : ℕ) (traces : Traces) → SomeFits nodes traces → (order : List (ℕ × ℕ)) × Fits traces order
order_of_fits nodes traces some =
    let run = run_of_steps traces some.steps (λ node k e is. ap (λ es. slice_get es k) (sym (some.fits.whole node)) ∙
    is) some.fits.fed in
    let back : reverse (reverse (places_of some.steps)) ≡ places_of some.steps =
    reverse-reverse (places_of some.steps) in (
      reverse (places_of some.steps),
      record {
        run = subst (λ ps. IsRun traces ps) (sym back) run;
        whole = λ node. ap (λ ps. count_at node ps) back ∙ count_entries node some.steps ∙
            ap (λ es. length es) (some.fits.whole node);
      },
    )
