-- Which places were seen.
use Rattle.std.proofs.Common.{◌≡◌, ◌≢◌, ℕ, zero, suc, ◌==◌, ◌&&◌, ◌+◌, ◌<◌, ◌≤◌, cond, Bool, true, false, List, [], ◌∷◌, ◌++◌, length, set, get_or, replicate, take, Some, All, Vec, refl, sym, ◌∙◌, ap, subst, arith, inl, inr, slice_get}
use Rattle.std.proofs.lemmas.Bool.Decides.{eqb_tells, leb_tells}
use Rattle.std.proofs.lemmas.List.{get_or-set_same, get_or-set_other, length-set, take_more}
use Rattle.std.proofs.lemmas.List.Sums.{sum_by_push, sum_by-take-le}
use Rattle.std.proofs.lemmas.Option.{slice_get_read, slice_get_within}
use Rattle.node_calls.specs.Told.{Told}
use Rattle.packed_trace.specs.Packed.{Packed}
use Rattle.std.specs.declared.alloc.Global.{Global}
use Rattle.node_calls.specs.declared.receipt.Receipt.{Receipt}
use Rattle.audit.specs.declared.receipts.Seen.{Seen}
use Rattle.audit.specs.Receipts.{HasPlace, HasPlaces, IsReceiptOf, marks_in, marks_of, times_seen, given_all, given_count, GivenOnce, GivenAll}
use Rattle.audit.specs.Traces.{Traces, trace_of, entry_at}
use Rattle.audit.proofs.Runs.{trace_past, entry_within}

abbrev pub Rows : Type 0
Rows = List (Vec Bool Global)

-- ---- rows of places that weren't seen

pub none_marked : (m i : ℕ) → get_or (replicate m false) i false ≡ false
none_marked zero i = refl
none_marked (suc m) zero = refl
none_marked (suc m) (suc i) = none_marked m i

-- one row more, of one trace more
pub rows_more : (rows : Rows) (traces : Traces) (row : Vec Bool Global) (trace : Packed) →
    length rows ≡ length traces →
    ((n : ℕ) → marks_in (slice_get rows n) ≡ replicate (length (trace_of traces n)) false) →
    row.items ≡ replicate (length trace.calls) false → (n : ℕ) →
    marks_in (slice_get (rows ++ row ∷ []) n) ≡ replicate (length (trace_of (traces ++ trace ∷ []) n)) false
rows_more [] [] row trace same each is zero = is
rows_more [] [] row trace same each is (suc n) = refl
rows_more [] (t ∷ traces) row trace same each is n = absurd (omega (arith, same))
rows_more (r ∷ rows) [] row trace same each is n = absurd (omega (arith, same))
rows_more (r ∷ rows) (t ∷ traces) row trace same each is zero = each zero
rows_more (r ∷ rows) (t ∷ traces) row trace same each is (suc n) =
    rows_more rows traces row trace (omega (arith, same)) (λ m. each (suc m)) is n

-- ---- a place that is marked

set_here : (rows : Rows) (node : ℕ) (row : Vec Bool Global) → node < length rows →
    slice_get (set rows node row) node ≡ Some row
set_here [] node row inside = absurd (omega (arith, inside))
set_here (r ∷ rows) zero row inside = refl
set_here (r ∷ rows) (suc node) row inside = set_here rows node row (omega (arith, inside))

set_elsewhere : (rows : Rows) (node n : ℕ) (row : Vec Bool Global) → node ≢ n →
    slice_get (set rows node row) n ≡ slice_get rows n
set_elsewhere [] node n row apart = refl
set_elsewhere (r ∷ rows) zero zero row apart = absurd (apart refl)
set_elsewhere (r ∷ rows) zero (suc n) row apart = refl
set_elsewhere (r ∷ rows) (suc node) zero row apart = refl
set_elsewhere (r ∷ rows) (suc node) (suc n) row apart = set_elsewhere rows node n row (λ e. apart (ap suc e))

-- after a mark at a place it is marked there, and else as before
pub marked : (rows : Rows) (node index : ℕ) (row new : Vec Bool Global) → slice_get rows node ≡ Some row →
    index < length row.items → new.items ≡ set row.items index true → (n i : ℕ) →
    get_or (marks_in (slice_get (set rows node new) n)) i false ≡
    cond ((node == n) && (index == i)) true (get_or (marks_in (slice_get rows n)) i false)
marked rows node index row new there inside is n i = elim (eqb_tells node n) [
  | inl w ↦
      let here : slice_get (set rows node new) n ≡ Some new = ap (λ m. slice_get (set rows node new) m) (sym w.1) ∙
      set_here rows node new (slice_get_within rows node row there) in
      let old : slice_get rows n ≡ Some row = ap (λ m. slice_get rows m) (sym w.1) ∙ there in
      let now : get_or (marks_in (slice_get (set rows node new) n)) i false ≡ get_or (set row.items index true) i false =
      ap (λ o. get_or (marks_in o) i false) here ∙ ap (λ l. get_or l i false) is in
      (elim (eqb_tells index i) [
        | inl v ↦ now ∙ ap (λ j. get_or (set row.items index true) j false) (sym v.1) ∙
            get_or-set_same row.items index true false inside ∙
            sym (ap (λ b. cond (b && (index == i)) true (get_or (marks_in (slice_get rows n)) i false)) w.0 ∙
            ap (λ b. cond b true (get_or (marks_in (slice_get rows n)) i false)) v.0)
        | inr v ↦ now ∙ get_or-set_other row.items index i true false (λ e. v.1 (sym e)) ∙
            sym (ap (λ b. cond (b && (index == i)) true (get_or (marks_in (slice_get rows n)) i false)) w.0 ∙
            ap (λ b. cond b true (get_or (marks_in (slice_get rows n)) i false)) v.0 ∙
            ap (λ o. get_or (marks_in o) i false) old)
      ])
  | inr w ↦ ap (λ o. get_or (marks_in o) i false) (set_elsewhere rows node n new w.1) ∙
      sym (ap (λ b. cond (b && (index == i)) true (get_or (marks_in (slice_get rows n)) i false)) w.0)
]

-- and no row is longer
pub same_rows : (rows : Rows) (node index : ℕ) (row new : Vec Bool Global) → slice_get rows node ≡ Some row →
    new.items ≡ set row.items index true → (n : ℕ) →
    length (marks_in (slice_get (set rows node new) n)) ≡ length (marks_in (slice_get rows n))
same_rows rows node index row new there is n = elim (eqb_tells node n) [
  | inl w ↦
      let here : slice_get (set rows node new) n ≡ Some new = ap (λ m. slice_get (set rows node new) m) (sym w.1) ∙
      set_here rows node new (slice_get_within rows node row there) in
      let old : slice_get rows n ≡ Some row = ap (λ m. slice_get rows m) (sym w.1) ∙ there in
      ap (λ o. length (marks_in o)) here ∙ ap (λ l. length l) is ∙ length-set row.items index true ∙
      sym (ap (λ o. length (marks_in o)) old)
  | inr w ↦ ap (λ o. length (marks_in o)) (set_elsewhere rows node n new w.1)
]

-- a receipt of a node that has no trace names no entry
pub none_past : (traces : Traces) (node index : ℕ) (entry : Told) → length traces ≤ node →
    entry_at traces node index ≡ Some entry → ⊥
none_past traces node index entry past is =
    let inside : index < length (trace_of traces node) = entry_within traces node index entry is in
    let none : length (trace_of traces node) ≡ 0 = ap (λ t. length t) (trace_past traces node past) in
    omega (arith, inside, none)

has_row : (rows : Rows) (node index : ℕ) → index < length (marks_in (slice_get rows node)) → node < length rows
has_row [] node index inside = absurd (omega (arith, inside))
has_row (r ∷ rows) zero index inside = omega arith
has_row (r ∷ rows) (suc node) index inside = let rest = has_row rows node index inside in omega (arith, rest)

-- the row that was read has the place
pub row_there : (rows : Rows) (node index : ℕ) (row : Vec Bool Global) →
    index < length (marks_in (slice_get rows node)) → row ≡ get_or rows node row →
    (slice_get rows node ≡ Some row) × (index < length row.items)
row_there rows node index row inside is =
    let there = slice_get_read rows _ node row refl (has_row rows node index inside) is in
    (there, subst (λ o. index < length (marks_in o)) there inside)

-- a receipt that tells an entry has a place
pub place_there : (traces : Traces) (seen : Seen) (receipts : List Receipt) → HasPlaces seen traces →
    All (IsReceiptOf traces) receipts → All (HasPlace seen) receipts
place_there traces seen receipts places tell k d low =
    let receipt = get_or receipts k d in
    let inside : receipt.index < length (trace_of traces receipt.node) =
    entry_within traces receipt.node receipt.index _ (tell k d low) in
    omega (arith, inside, places receipt.node)

-- the first note of a place counts there
pub note_first : (old new : ℕ → ℕ → Bool) (node index : ℕ) → old node index ≡ false →
    ((n i : ℕ) → new n i ≡ cond ((node == n) && (index == i)) true (old n i)) → (n i : ℕ) →
    cond (new n i) 1 0 ≡ cond (old n i) 1 0 + cond ((node == n) && (index == i)) 1 0
note_first old new node index fresh put n i =
    let is = put n i in
    elim (eqb_tells node n) [
      | inl w ↦ (elim (eqb_tells index i) [
        | inl v ↦
            let was : old n i ≡ false = ap (λ m. old m i) (sym w.1) ∙ ap (λ j. old node j) (sym v.1) ∙ fresh in
            let now : new n i ≡ true = is ∙ ap (λ b. cond (b && (index == i)) true (old n i)) w.0 ∙
            ap (λ b. cond b true (old n i)) v.0 in
            let one : cond ((node == n) && (index == i)) 1 0 ≡ 1 = ap {B = ℕ} (λ b. cond (b && (index == i)) 1 0) w.0 ∙
            ap {B = ℕ} (λ b. cond b 1 0) v.0 in
            omega (arith, ap {B = ℕ} (λ b. cond b 1 0) was, ap {B = ℕ} (λ b. cond b 1 0) now, one)
        | inr v ↦
            let now : new n i ≡ old n i = is ∙ ap (λ b. cond (b && (index == i)) true (old n i)) w.0 ∙
            ap (λ b. cond b true (old n i)) v.0 in
            let none : cond ((node == n) && (index == i)) 1 0 ≡ 0 = ap {B = ℕ} (λ b. cond (b && (index == i)) 1 0) w.0 ∙
            ap {B = ℕ} (λ b. cond b 1 0) v.0 in
            omega (arith, ap {B = ℕ} (λ b. cond b 1 0) now, none)
      ])
      | inr w ↦
          let now : new n i ≡ old n i = is ∙ ap (λ b. cond (b && (index == i)) true (old n i)) w.0 in
          let none : cond ((node == n) && (index == i)) 1 0 ≡ 0 = ap {B = ℕ} (λ b. cond (b && (index == i)) 1 0) w.0 in
          omega (arith, ap {B = ℕ} (λ b. cond b 1 0) now, none)
    ]

-- a place is seen at most once
pub seen_once : (seen : Seen) (n i : ℕ) → times_seen seen n i ≤ 1
unfolding times_seen
seen_once seen n i = at_most_one (get_or (marks_of seen n) i false)
  where
    at_most_one : (b : Bool) → cond b 1 0 ≤ 1
    at_most_one true = omega arith
    at_most_one false = omega arith

pub given_once : (seen : Seen) (lists : List (Vec Receipt Global)) →
    ((n i : ℕ) → times_seen seen n i ≡ given_all n i lists) → GivenOnce lists
given_once seen lists counted = λ n i. omega (arith, seen_once seen n i, counted n i)

pub given_everywhere : (traces : Traces) (seen : Seen) (lists : List (Vec Receipt Global)) →
    ((n i : ℕ) → times_seen seen n i ≡ given_all n i lists) →
    ((n i : ℕ) → n < length traces → i < length (trace_of traces n) → times_seen seen n i ≡ 1) → GivenAll traces lists
given_everywhere traces seen lists counted present = λ n i inside. elim (leb_tells (length traces) n) [
  | inl w ↦
      let none : length (trace_of traces n) ≡ 0 = ap (λ t. length t) (trace_past traces n w.1) in
      absurd (omega (arith, inside, none))
  | inr w ↦ sym (counted n i) ∙ present n i w.1 inside
]

-- the receipts of a list come to those of the lists before it
pub given_more : (n i : ℕ) (lists : List (Vec Receipt Global)) (k : ℕ) (list : Vec Receipt Global) → k < length lists →
    list ≡ get_or lists k list → given_all n i (take k lists) + given_count n i list.items ≤ given_all n i lists
given_more n i lists k list inside is =
    let f : Vec Receipt Global → ℕ = λ d. given_count n i d.items in
    let more : given_all n i (take (k + 1) lists) ≡ given_all n i (take k lists) + given_count n i list.items =
    ap (λ ds. given_all n i ds) (take_more lists k list inside ∙ ap (λ d. take k lists ++ d ∷ []) (sym is)) ∙
    sum_by_push f (take k lists) list in
    let most : given_all n i (take (k + 1) lists) ≤ given_all n i lists = sum_by-take-le f lists (k + 1) in
    omega (arith, more, most)
