-- Steps of nodes side by side, against places.
use Rattle.std.proofs.Common.{◌≡◌, ◌≢◌, ◌⊎◌, inl, inr, ℕ, zero, suc, ◌+◌, ◌<◌, cond, List, [], ◌∷◌, ◌++◌, length, take, Some, refl, sym, ◌∙◌, ap, subst, arith, slice_get, length-append}
use Rattle.std.specs.Prelude.{option_and_then}
use Rattle.std.proofs.lemmas.Bool.Decides.{eqb_tells}
use Rattle.node_calls.specs.Told.{Told}
use Rattle.node_core.proofs.Repeated.{take_one_more}
use Rattle.audit.specs.Messages.{bytes_emitted}
use Rattle.audit.specs.Traces.{Traces, trace_of, entry_at}
use Rattle.audit.specs.Schedules.{Step, entries_at, WasEmitted, AreFed}
use Rattle.audit.specs.Places.{count_at, emitted_at, IsSent, IsReady, IsRun, step_with, steps_at}
use Rattle.audit.proofs.Runs.{count_cases}

pub take_whole : (es : List Told) → take (length es) es ≡ es
take_whole [] = refl
take_whole (e ∷ es) = ap (λ xs. e ∷ xs) (take_whole es)

-- a step at a node, and one elsewhere
pub at_cases : (node : ℕ) (step : Step) (steps : List Step) →
    ((step.node ≡ node) × (entries_at node (step ∷ steps) ≡ entries_at node steps ++ step.entry ∷ []))
    ⊎ ((step.node ≢ node) × (entries_at node (step ∷ steps) ≡ entries_at node steps))
at_cases node step steps = elim (eqb_tells step.node node) [
  | inl w ↦ inl (w.1, ap (λ t. cond t (entries_at node steps ++ step.entry ∷ []) (entries_at node steps)) w.0)
  | inr w ↦ inr (w.1, ap (λ t. cond t (entries_at node steps ++ step.entry ∷ []) (entries_at node steps)) w.0)
]

-- an element keeps its place where one is put behind it
slice_get_front : (xs : List Told) (y : Told) (k : ℕ) (e : Told) → slice_get xs k ≡ Some e →
    slice_get (xs ++ y ∷ []) k ≡ Some e
slice_get_front [] y k e is = absurd (cc is)
slice_get_front (x ∷ xs) y zero e is = is
slice_get_front (x ∷ xs) y (suc k) e is = slice_get_front xs y k e is

slice_get_end : (xs : List Told) (y : Told) → slice_get (xs ++ y ∷ []) (length xs) ≡ Some y
slice_get_end [] y = refl
slice_get_end (x ∷ xs) y = slice_get_end xs y

-- ---- from places to steps

-- the step of a place that is ready
abbrev pub step_of : (traces : Traces) (earlier : List (ℕ × ℕ)) (place : ℕ × ℕ) → IsReady traces earlier place → Step
step_of traces earlier place ready = record { node = place.0; entry = ready.entry }

pub steps_more : (traces : Traces) (earlier : List (ℕ × ℕ)) (place : ℕ × ℕ) (ready : IsReady traces earlier place) →
    steps_at traces (place ∷ earlier) ≡ step_of traces earlier place ready ∷ steps_at traces earlier
steps_more traces earlier place ready = ap (λ o. step_with place.0 o ++ steps_at traces earlier) ready.there

pub entries_taken : (traces : Traces) (placed : List (ℕ × ℕ)) → IsRun traces placed → (node : ℕ) →
    entries_at node (steps_at traces placed) ≡ take (count_at node placed) (trace_of traces node)
unfolding entry_at
entries_taken traces [] run node = refl
entries_taken traces (place ∷ earlier) run node =
    ap (λ s. entries_at node s) (steps_more traces earlier place run.0) ∙
    (elim (at_cases node (step_of traces earlier place run.0) (steps_at traces earlier)) [
      | inl w ↦ (elim (count_cases node place earlier) [
        | inl v ↦
            let is : slice_get (trace_of traces node) (count_at node earlier) ≡ Some run.0.entry =
            ap (λ n. slice_get (trace_of traces n) (count_at n earlier)) (sym w.0) ∙
            ap (λ i. slice_get (trace_of traces place.0) i) (sym run.0.next) ∙ run.0.there in
            let more : count_at node (place ∷ earlier) ≡ suc (count_at node earlier) = omega (arith, v.1) in
            w.1 ∙ ap (λ es. es ++ run.0.entry ∷ []) (entries_taken traces earlier run.1 node)
            ∙ sym (take_one_more (trace_of traces node) (count_at node earlier) run.0.entry is)
            ∙ ap (λ k. take k (trace_of traces node)) (sym more)
        | inr v ↦ absurd (v.0 w.0)
      ])
      | inr w ↦ (elim (count_cases node place earlier) [
        | inl v ↦ absurd (w.0 v.0)
        | inr v ↦ w.1 ∙ entries_taken traces earlier run.1 node ∙ ap (λ k. take k (trace_of traces node)) (sym v.1)
      ])
    ])

pub emitted_of_sent : (traces : Traces) (placed : List (ℕ × ℕ)) → IsRun traces placed → (bytes : List ℕ) →
    IsSent traces placed bytes → WasEmitted (steps_at traces placed) bytes
emitted_of_sent traces [] run bytes sent = sent
emitted_of_sent traces (place ∷ earlier) run bytes sent =
    subst (λ s. WasEmitted s bytes) (sym (steps_more traces earlier place run.0)) (elim sent [
      | inl is ↦ inl (sym (ap (option_and_then bytes_emitted) run.0.there) ∙ is)
      | inr later ↦ inr (emitted_of_sent traces earlier run.1 bytes later)
    ])

pub fed_of_run : (traces : Traces) (placed : List (ℕ × ℕ)) → IsRun traces placed → AreFed (steps_at traces placed)
fed_of_run traces [] run = tt
fed_of_run traces (place ∷ earlier) run =
    subst AreFed (sym (steps_more traces earlier place run.0))
    ((λ bytes is. emitted_of_sent traces earlier run.1 bytes (run.0.fed bytes is)), fed_of_run traces earlier run.1)

-- what was sent was sent from a place
pub record IsSentFrom (traces : Traces) (placed : List (ℕ × ℕ)) (bytes : List ℕ) : Type 0 where
  pub node : ℕ
  pub index : ℕ
  pub inside : index < count_at node placed
  pub is : emitted_at traces node index ≡ Some bytes

pub sent_from : (traces : Traces) (placed : List (ℕ × ℕ)) → IsRun traces placed → (bytes : List ℕ) →
    IsSent traces placed bytes → IsSentFrom traces placed bytes
sent_from traces [] run bytes sent = absurd sent
sent_from traces (place ∷ earlier) run bytes sent = elim sent [
  | inl is ↦
      let next : place.1 ≡ count_at place.0 earlier = run.0.next in
      record {
        node = place.0;
        index = place.1;
        inside = elim (count_cases place.0 place earlier) [
          | inl v ↦ (let more : count_at place.0 (place ∷ earlier) ≡ 1 + count_at place.0 earlier = v.1 in
              omega (arith, next, more))
          | inr v ↦ absurd (v.0 refl)
        ];
        is = is;
      }
  | inr later ↦
      let from = sent_from traces earlier run.1 bytes later in
      let below : from.index < count_at from.node earlier = from.inside in
      record {
        node = from.node;
        index = from.index;
        inside = elim (count_cases from.node place earlier) [
          | inl v ↦ (let more : count_at from.node (place ∷ earlier) ≡ 1 + count_at from.node earlier = v.1 in
              omega (arith, below, more))
          | inr v ↦ (let same : count_at from.node (place ∷ earlier) ≡ count_at from.node earlier = v.1 in
              omega (arith, below, same))
        ];
        is = from.is;
      }
]

-- ---- from steps to places

pub places_of : List Step → List (ℕ × ℕ)
places_of [] = []
places_of (step ∷ earlier) = (step.node, length (entries_at step.node earlier)) ∷ places_of earlier

pub count_entries : (node : ℕ) (steps : List Step) → count_at node (places_of steps) ≡ length (entries_at node steps)
unfolding places_of
count_entries node [] = refl
count_entries node (step ∷ earlier) = elim (at_cases node step earlier) [
  | inl w ↦ (elim (count_cases node (step.node, length (entries_at step.node earlier)) (places_of earlier)) [
    | inl v ↦
        let rest : count_at node (places_of earlier) ≡ length (entries_at node earlier) = count_entries node earlier in
        let long : length (entries_at node (step ∷ earlier)) ≡ length (entries_at node earlier) + 1 =
        ap (λ es. length es) w.1 ∙ length-append (entries_at node earlier) (step.entry ∷ []) in
        omega (arith, v.1, rest, long)
    | inr v ↦ absurd (v.0 w.0)
  ])
  | inr w ↦ (elim (count_cases node (step.node, length (entries_at step.node earlier)) (places_of earlier)) [
    | inl v ↦ absurd (w.0 v.0)
    | inr v ↦ v.1 ∙ count_entries node earlier ∙ ap (λ es. length es) (sym w.1)
  ])
]

-- the entries at each node begin its trace
abbrev pub Begins : Traces → List Step → Type 0
Begins traces steps = (node k : ℕ) (e : Told) → slice_get (entries_at node steps) k ≡ Some e →
    slice_get (trace_of traces node) k ≡ Some e

begins_earlier : (traces : Traces) (step : Step) (earlier : List Step) → Begins traces (step ∷ earlier) →
    Begins traces earlier
begins_earlier traces step earlier begins node k e is = elim (at_cases node step earlier) [
  | inl w ↦ begins node k e (ap (λ es. slice_get es k) w.1 ∙
      slice_get_front (entries_at node earlier) step.entry k e is)
  | inr w ↦ begins node k e (ap (λ es. slice_get es k) w.1 ∙ is)
]

place_there : (traces : Traces) (step : Step) (earlier : List Step) → Begins traces (step ∷ earlier) →
    entry_at traces step.node (length (entries_at step.node earlier)) ≡ Some step.entry
unfolding entry_at
place_there traces step earlier begins = elim (at_cases step.node step earlier) [
  | inl w ↦ begins step.node (length (entries_at step.node earlier)) step.entry
      (ap (λ es. slice_get es (length (entries_at step.node earlier))) w.1 ∙
      slice_get_end (entries_at step.node earlier) step.entry)
  | inr w ↦ absurd (w.0 refl)
]

sent_of_emitted : (traces : Traces) (steps : List Step) → Begins traces steps → (bytes : List ℕ) →
    WasEmitted steps bytes → IsSent traces (places_of steps) bytes
unfolding places_of
sent_of_emitted traces [] begins bytes was = was
sent_of_emitted traces (step ∷ earlier) begins bytes was = elim was [
  | inl is ↦ inl (ap (option_and_then bytes_emitted) (place_there traces step earlier begins) ∙ is)
  | inr later ↦ inr (sent_of_emitted traces earlier (begins_earlier traces step earlier begins) bytes later)
]

pub run_of_steps : (traces : Traces) (steps : List Step) → Begins traces steps → AreFed steps →
    IsRun traces (places_of steps)
unfolding places_of
run_of_steps traces [] begins fed = tt
run_of_steps traces (step ∷ earlier) begins fed =
    let rest = begins_earlier traces step earlier begins in (
      record {
        next = sym (count_entries step.node earlier);
        entry = step.entry;
        there = place_there traces step earlier begins;
        fed = λ bytes is. sent_of_emitted traces earlier rest bytes (fed.0 bytes is);
      },
      run_of_steps traces earlier rest fed.1,
    )
