-- What was placed, and that no schedule gets further.
use Rattle.std.proofs.Common.{◌≡◌, ◌⊎◌, inl, inr, ℕ, zero, suc, ◌+◌, ◌<◌, ◌≤◌, ◌≢◌, ◌↔◌, cond, Bool, true, false, IsTrue, List, [], ◌∷◌, length, slice_index, slice_set, get_or, Option, Some, None, refl, sym, ◌∙◌, ap, subst, arith, zero-add, get_or-set_same, get_or-set_other, slice_get}
use Rattle.std.proofs.lemmas.Bool.Decides.{eqb_tells, leb_tells}
use Rattle.std.proofs.lemmas.List.{length-set}
use Rattle.std.proofs.lemmas.Option.{slice_get_within}
use Rattle.std.specs.Prelude.{option_and_then}
use Rattle.node_calls.specs.Told.{Told}
use Rattle.packed_trace.specs.Packed.{Packed}
use Rattle.audit.specs.Messages.{bytes_emitted, bytes_delivered}
use Rattle.audit.specs.Traces.{Traces, trace_of, entry_at}
use Rattle.audit.specs.Places.{count_at, emitted_at, IsSent, IsReady, IsRun, IsStuckAt, IsStuckWith}
use Rattle.audit.specs.Boards.{IsKept, NoneFits, left}

-- a place counts at its node and nowhere else
pub count_cases : (node : ℕ) (place : ℕ × ℕ) (places : List (ℕ × ℕ)) →
    ((place.0 ≡ node) × (count_at node (place ∷ places) ≡ 1 + count_at node places)) ⊎
    ((place.0 ≢ node) × (count_at node (place ∷ places) ≡ count_at node places))
count_cases node place places = elim (eqb_tells place.0 node) [
  | inl w ↦ inl (w.1, ap (λ t. cond t 1 0 + count_at node places) w.0)
  | inr w ↦ inr (w.1, ap (λ t. cond t 1 0 + count_at node places) w.0 ∙ zero-add (count_at node places))
]

-- an Emit that was placed is sent
pub sent_of_placed : (traces : Traces) (placed : List (ℕ × ℕ)) (node index : ℕ) (bytes : List ℕ) →
    IsRun traces placed → index < count_at node placed → emitted_at traces node index ≡ Some bytes →
    IsSent traces placed bytes
sent_of_placed traces [] node index bytes run below is = absurd (omega arith)
sent_of_placed traces (place ∷ earlier) node index bytes run below is =
    elim (count_cases node place earlier) [
      | inl w ↦ (elim (eqb_tells index place.1) [
        | inl same ↦ inl (ap (λ n. emitted_at traces n place.1) w.0 ∙ ap (λ i. emitted_at traces node i) (sym same.1) ∙
            is)
        | inr apart ↦
            let next : place.1 ≡ count_at place.0 earlier = run.0.next in
            let there : count_at place.0 earlier ≡ count_at node earlier = ap (λ n. count_at n earlier) w.0 in
            let differs : index ≢ place.1 = apart.1 in
            let more : count_at node (place ∷ earlier) ≡ 1 + count_at node earlier = w.1 in
            inr (sent_of_placed traces earlier node index bytes run.1 (omega (arith, below, more, next, there, differs))
            is)
      ])
      | inr w ↦
          let same : count_at node (place ∷ earlier) ≡ count_at node earlier = w.1 in
          inr (sent_of_placed traces earlier node index bytes run.1 (omega (arith, below, same)) is)
    ]

-- another run has come no further at any node, and has sent nothing else
pub record IsWithin (traces : Traces) (placed other : List (ℕ × ℕ)) : Type 0 where
  pub fewer : (node : ℕ) → count_at node other ≤ count_at node placed
  pub sent : (bytes : List ℕ) → IsSent traces other bytes → IsSent traces placed bytes

-- a place that is ready after such a run was placed
pub ready_placed : (traces : Traces) (placed earlier : List (ℕ × ℕ)) (place : ℕ × ℕ) →
    IsStuckAt traces placed place.0 → IsWithin traces placed earlier → IsReady traces earlier place →
    place.1 < count_at place.0 placed
ready_placed traces placed earlier place stuck within ready =
    elim (eqb_tells place.1 (count_at place.0 placed)) [
      | inl same ↦
          let blocked = stuck ready.entry (ap (λ i. entry_at traces place.0 i) (sym same.1) ∙ ready.there) in
          absurd (blocked.2 (within.sent blocked.0 (ready.fed blocked.0 blocked.1)))
      | inr apart ↦
          let next : place.1 ≡ count_at place.0 earlier = ready.next in
          let fewer : count_at place.0 earlier ≤ count_at place.0 placed = within.fewer place.0 in
          let differs : place.1 ≢ count_at place.0 placed = apart.1 in
          omega (arith, next, fewer, differs)
    ]

-- where no node can go on, every run is within
pub no_further : (traces : Traces) (placed : List (ℕ × ℕ)) → IsRun traces placed →
    ((node : ℕ) → IsStuckAt traces placed node) →
    (other : List (ℕ × ℕ)) → IsRun traces other → IsWithin traces placed other
no_further traces placed run stuck [] its = record { fewer = λ node. omega arith; sent = λ bytes h. absurd h }
no_further traces placed run stuck (place ∷ earlier) its =
    let rest : IsWithin traces placed earlier = no_further traces placed run stuck earlier its.1 in
    let below : place.1 < count_at place.0 placed = ready_placed traces placed earlier place (stuck place.0) rest
    its.0 in
    record {
      fewer = λ node. elim (count_cases node place earlier) [
        | inl w ↦
            let next : place.1 ≡ count_at place.0 earlier = its.0.next in
            let here : count_at place.0 earlier ≡ count_at node earlier = ap (λ n. count_at n earlier) w.0 in
            let there : count_at place.0 placed ≡ count_at node placed = ap (λ n. count_at n placed) w.0 in
            let more : count_at node (place ∷ earlier) ≡ 1 + count_at node earlier = w.1 in
            omega (arith, next, here, there, more, below)
        | inr w ↦
            let same : count_at node (place ∷ earlier) ≡ count_at node earlier = w.1 in
            let fewer : count_at node earlier ≤ count_at node placed = rest.fewer node in
            omega (arith, same, fewer)
      ];
      sent = λ bytes h. elim h [
        | inl is ↦ sent_of_placed traces placed place.0 place.1 bytes run below is
        | inr later ↦ rest.sent bytes later
      ];
    }

-- where no node can go on and one has an entry left, no schedule fits
pub none_fits : (traces : Traces) (placed : List (ℕ × ℕ)) → IsRun traces placed →
    ((node : ℕ) → IsStuckAt traces placed node) →
    (node : ℕ) → count_at node placed < length (trace_of traces node) → NoneFits traces
none_fits traces placed run stuck node less order fits =
    let within = no_further traces placed run stuck _ fits.run in
    let fewer = within.fewer node in
    let whole = fits.whole node in
    omega (arith, fewer, whole, less)

-- a run stays inside the traces
pub count_within : (traces : Traces) (placed : List (ℕ × ℕ)) → IsRun traces placed → (node : ℕ) →
    count_at node placed ≤ length (trace_of traces node)
unfolding entry_at
count_within traces [] run node = omega arith
count_within traces (place ∷ earlier) run node = elim (count_cases node place earlier) [
  | inl w ↦
      let next : place.1 ≡ count_at place.0 earlier = run.0.next in
      let here : count_at place.0 earlier ≡ count_at node earlier = ap (λ n. count_at n earlier) w.0 in
      let there : length (trace_of traces place.0) ≡ length (trace_of traces node) =
      ap (λ n. length (trace_of traces n)) w.0 in
      let inside : place.1 < length (trace_of traces place.0) =
      slice_get_within (trace_of traces place.0) place.1 run.0.entry run.0.there in
      let more : count_at node (place ∷ earlier) ≡ 1 + count_at node earlier = w.1 in
      omega (arith, next, here, there, more, inside)
  | inr w ↦
      let same : count_at node (place ∷ earlier) ≡ count_at node earlier = w.1 in
      let rest : count_at node earlier ≤ length (trace_of traces node) = count_within traces earlier run.1 node in
      omega (arith, same, rest)
]

-- one more place that is ready
pub kept_more : (traces : Traces) (placed : List (ℕ × ℕ)) (positions : List ℕ) (has after : List ℕ → Bool) (node : ℕ)
    (entry : Told) →
    IsKept traces placed positions has → node < length traces →
    entry_at traces node (slice_index positions node) ≡ Some entry →
    ((bytes : List ℕ) → bytes_delivered entry ≡ Some bytes → IsTrue (has bytes)) →
    ((bytes : List ℕ) → IsTrue (after bytes) ↔ ((bytes_emitted entry ≡ Some bytes) ⊎ IsTrue (has bytes))) →
    IsKept traces ((node, slice_index positions node) ∷ placed)
    (slice_set positions node (slice_index positions node + 1)) after
kept_more traces placed positions has after node entry kept below there fed more = record {
  run = (
    record {
      next = kept.reached node below;
      entry = entry;
      there = there;
      fed =
          λ bytes is. (kept.sent bytes).0 (fed bytes is);
    },
    kept.run,
  );
  each = length-set positions node (slice_index positions node + 1) ∙ kept.each;
  reached = λ n inside.
      let within : node < length positions = omega (arith, kept.each, below) in
      elim (count_cases n (node, slice_index positions node) placed) [
        | inl w ↦
            let e1 : slice_index (slice_set positions node (slice_index positions node + 1)) node ≡ slice_index
            positions node + 1 = get_or-set_same positions node _ 0 within in
            let e2 : slice_index positions node ≡ count_at node placed = kept.reached node below in
            let e3 : count_at node placed ≡ count_at n placed = ap (λ m. count_at m placed) w.0 in
            let e4 : slice_index (slice_set positions node (slice_index positions node + 1)) n ≡ slice_index
            (slice_set positions node (slice_index positions node + 1)) node =
            ap (λ m. slice_index (slice_set positions node (slice_index positions node + 1)) m) (sym w.0) in
            let e5 : count_at n ((node, slice_index positions node) ∷ placed) ≡ 1 + count_at n placed = w.1 in
            omega (arith, e1, e2, e3, e4, e5)
        | inr w ↦
            let e1 : slice_index (slice_set positions node (slice_index positions node + 1)) n ≡ slice_index positions
            n = get_or-set_other positions node n _ 0 (λ same. w.0 (sym same)) in
            e1 ∙ kept.reached n inside ∙ sym w.1
      ];
  sent = λ bytes. (
    (λ h. elim ((more bytes).0 h) [
      | inl is ↦ inl (ap (option_and_then bytes_emitted) there ∙ is)
      | inr old ↦ inr
          ((kept.sent bytes).0 old)
    ]),
    (λ h. elim h [
      | inl is ↦ (more bytes).1 (inl (sym (ap (option_and_then bytes_emitted) there) ∙ is))
      | inr old ↦ (more bytes).1 (inr ((kept.sent bytes).1 old))
    ]),
  );
}

-- a position that goes on leaves one entry less
pub left_falls : (traces : Traces) (positions : List ℕ) (node : ℕ) → length positions ≡ length traces →
    node < length traces →
    slice_index positions node < length (trace_of traces node) →
    left traces (slice_set positions node (slice_index positions node + 1)) + 1 ≡ left traces positions
left_falls [] positions node each below inside = absurd (omega arith)
left_falls (trace ∷ traces) [] node each below inside = absurd (omega (arith, each))
left_falls (trace ∷ traces) (n ∷ positions) zero each below inside =
    let less : n < length trace.calls = inside in
    omega (arith, less)
left_falls (trace ∷ traces) (n ∷ positions) (suc node) each below inside =
    let rest : left traces (slice_set positions node (slice_index positions node + 1)) + 1 ≡ left traces positions =
    left_falls traces positions node (omega (arith, each)) (omega (arith, below)) inside in
    omega (arith, rest)

-- the trace at an index of the traces
pub trace_read : (traces : Traces) (node : ℕ) (trace : Packed) → node < length traces →
    trace ≡ get_or traces node trace → trace_of traces node ≡ trace.calls
trace_read [] node trace below is = absurd (omega arith)
trace_read (first ∷ traces) zero trace below is = ap (λ (v : Packed). v.calls) (sym is)
trace_read (first ∷ traces) (suc node) trace below is = trace_read traces node trace (omega (arith, below)) is

pub entry_read : (traces : Traces) (node index : ℕ) (trace : Packed) (found : Option Told) →
    node < length traces → trace ≡ get_or traces node trace →
    found ≡ slice_get trace.calls index → entry_at traces node index ≡ found
unfolding entry_at
entry_read traces node index trace found below is read = ap (λ t. slice_get t index)
    (trace_read traces node trace below is) ∙ sym read

-- a node with no further entry
pub stuck_at_end : (traces : Traces) (placed : List (ℕ × ℕ)) (positions : List ℕ) (has : List ℕ → Bool) (node : ℕ) →
    IsKept traces placed positions has → node < length traces →
    entry_at traces node (slice_index positions node) ≡ None → IsStuckAt traces placed node
stuck_at_end traces placed positions has node kept below none =
    λ entry some.
    let here : entry_at traces node (slice_index positions node) ≡ entry_at traces node (count_at node placed) =
    ap (λ i. entry_at traces node i) (kept.reached node below) in
    let clash : None ≡ Some entry = sym none ∙ here ∙ some in
    cc

-- a node whose next entry delivers what was not emitted
pub stuck_unsent : (traces : Traces) (placed : List (ℕ × ℕ)) (positions : List ℕ) (has : List ℕ → Bool) (node : ℕ)
    (next : Told) (bytes : List ℕ) →
    IsKept traces placed positions has → node < length traces →
    entry_at traces node (slice_index positions node) ≡ Some next →
    bytes_delivered next ≡ Some bytes → has bytes ≡ false → IsStuckAt traces placed node
stuck_unsent traces placed positions has node next bytes kept below is brings unsent =
    λ entry some.
    let here : entry_at traces node (slice_index positions node) ≡ entry_at traces node (count_at node placed) =
    ap (λ i. entry_at traces node i) (kept.reached node below) in
    let both : Some next ≡ Some entry = sym is ∙ here ∙ some in
    let same : next ≡ entry = cc in
    (bytes, ap bytes_delivered (sym same) ∙ brings, λ sent. let yes : has bytes ≡ true = (kept.sent bytes).1 sent in cc)

-- the place of a next entry is inside the trace
pub entry_within : (traces : Traces) (node index : ℕ) (entry : Told) → entry_at traces node index ≡ Some entry →
    index < length (trace_of traces node)
unfolding entry_at
entry_within traces node index entry is = slice_get_within (trace_of traces node) index entry is

-- a number read at an index
pub position_read : (xs : List ℕ) (i x : ℕ) → i < length xs → x ≡ get_or xs i x → slice_index xs i ≡ x
position_read [] i x below is = absurd (omega arith)
position_read (y ∷ ys) zero x below is = sym is
position_read (y ∷ ys) (suc i) x below is = position_read ys i x (omega (arith, below)) is

-- `kept_more`, as code reads and pushes
pub kept_pushed : (traces : Traces) (placed pushed : List (ℕ × ℕ)) (positions : List ℕ) (has after : List ℕ → Bool)
    (node index : ℕ) (entry : Told) →
    IsKept traces placed positions has → node < length traces → slice_index positions node ≡ index →
    entry_at traces node (slice_index positions node) ≡ Some entry →
    ((bytes : List ℕ) → bytes_delivered entry ≡ Some bytes → IsTrue (has bytes)) →
    ((bytes : List ℕ) → IsTrue (after bytes) ↔ ((bytes_emitted entry ≡ Some bytes) ⊎ IsTrue (has bytes))) →
    pushed ≡ (node, index) ∷ placed →
    IsKept traces pushed (slice_set positions node (index + 1)) after
kept_pushed traces placed pushed positions has after node index entry kept below at there fed more is =
    let base = kept_more traces placed positions has after node entry kept below there fed more in
    let P : ℕ → Type 0 = λ i. IsKept traces ((node, i) ∷ placed) (slice_set positions node (i + 1)) after in
    let Q : List (ℕ × ℕ) → Type 0 = λ ps. IsKept traces ps (slice_set positions node (index + 1)) after in
    subst Q (sym is) (subst P at base)

-- there is no trace past the nodes
pub trace_past : (traces : Traces) (node : ℕ) → length traces ≤ node → trace_of traces node ≡ []
trace_past [] node past = refl
trace_past (trace ∷ traces) zero past = absurd (omega (arith, past))
trace_past (trace ∷ traces) (suc node) past = trace_past traces node (omega (arith, past))

-- what is stuck at each node is stuck everywhere
pub stuck_everywhere : (traces : Traces) (placed : List (ℕ × ℕ)) →
    ((n : ℕ) → n < length traces → IsStuckAt traces placed n) → (n : ℕ) → IsStuckAt traces placed n
stuck_everywhere traces placed stuck n = elim (leb_tells (length traces) n) [
  | inr w ↦ stuck n w.1
  | inl w ↦ λ entry is.
      let inside : count_at n placed < length (trace_of traces n) =
      entry_within traces n (count_at n placed) entry is in
      let none : length (trace_of traces n) ≡ 0 = ap (λ t. length t) (trace_past traces n w.1) in
      absurd (omega (arith, inside, none))
]

-- where each position is at its trace's end, each trace is whole
pub whole_at_ends : (traces : Traces) (placed : List (ℕ × ℕ)) (positions : List ℕ) (has : List ℕ → Bool) →
    IsKept traces placed positions has →
    ((n : ℕ) → n < length traces → length (trace_of traces n) ≤ slice_index positions n) → (n : ℕ) →
    count_at n placed ≡ length (trace_of traces n)
whole_at_ends traces placed positions has kept ends n =
    let within : count_at n placed ≤ length (trace_of traces n) = count_within traces placed kept.run n in
    elim (leb_tells (length traces) n) [
      | inr w ↦
          let reached : slice_index positions n ≡ count_at n placed = kept.reached n w.1 in
          let end : length (trace_of traces n) ≤ slice_index positions n = ends n w.1 in
          omega (arith, within, reached, end)
      | inl w ↦
          let none : length (trace_of traces n) ≡ 0 = ap (λ t. length t) (trace_past traces n w.1) in
          omega (arith, within, none)
    ]

-- the place at which every order gets stuck
pub stuck_with : (traces : Traces) (placed : List (ℕ × ℕ)) (positions : List ℕ) (has : List ℕ → Bool) (node index : ℕ) →
    IsKept traces placed positions has →
    ((n : ℕ) → n < length traces → IsStuckAt traces placed n) → node < length traces →
    slice_index positions node ≡ index →
    slice_index positions node < length (trace_of traces node) →
    ((n : ℕ) → n < node → length (trace_of traces n) ≤ slice_index positions n) →
    IsStuckWith traces node index × NoneFits traces
stuck_with traces placed positions has node index kept stuck below at more least =
    let everywhere = stuck_everywhere traces placed stuck in
    let reached : slice_index positions node ≡ count_at node placed = kept.reached node below in (
      record {
        placed = placed;
        run = kept.run;
        stuck = everywhere;
        reached = sym at ∙ reached;
        more = omega (arith, at, more);
        least = λ n before.
            let inside : n < length traces = omega (arith, before, below) in
            let here : slice_index positions n ≡ count_at n placed = kept.reached n inside in
            let end : length (trace_of traces n) ≤ slice_index positions n = least n before in
            let within : count_at n placed ≤ length (trace_of traces n) = count_within traces placed kept.run n in
            omega (arith, here, end, within);
      },
      none_fits traces placed kept.run everywhere node (omega (arith, reached, more)),
    )

-- wherever two runs get stuck, they have come as far as each other
pub same_counts : (traces : Traces) {n i m j : ℕ} (a : IsStuckWith traces n i) (b : IsStuckWith traces m j) → (k : ℕ) →
    count_at k a.placed ≡ count_at k b.placed
same_counts traces a b k =
    let up : count_at k b.placed ≤ count_at k a.placed = (no_further traces a.placed a.run a.stuck b.placed b.run).fewer
    k in
    let down : count_at k a.placed ≤ count_at k b.placed = (no_further traces b.placed b.run b.stuck a.placed
    a.run).fewer k in
    omega (arith, up, down)

not_before : (traces : Traces) {n i m j : ℕ} (a : IsStuckWith traces n i) (b : IsStuckWith traces m j) → n < m → ⊥
not_before traces {n = n} a b before =
    let whole : count_at n b.placed ≡ length (trace_of traces n) = b.least n before in
    let same : count_at n a.placed ≡ count_at n b.placed = same_counts traces a b n in
    omega (arith, whole, same, a.more, a.reached)

-- the place is one alone, whatever was placed first
pub stuck_unique : (traces : Traces) (n i m j : ℕ) → IsStuckWith traces n i → IsStuckWith traces m j → (n ≡ m) × (i ≡ j)
stuck_unique traces n i m j a b =
    let one = not_before traces a b in
    let other = not_before traces b a in
    let node : n ≡ m = omega (arith, one, other) in
    let counts : count_at n a.placed ≡ count_at n b.placed = same_counts traces a b n in
    let there : count_at n b.placed ≡ count_at m b.placed = ap (λ k. count_at k b.placed) node in
    (node, omega (arith, a.reached, b.reached, counts, there))
