-- What parts come to is what they have, one behind the other.
use Rattle.std.proofs.Common.{◌≡◌, ℕ, zero, suc, ◌==◌, Bool, true, false, List, [], ◌∷◌, ◌++◌, length, get_or, flat_map, Option, Some, None, refl, sym, ap, ◌∙◌, append_assoc, append-nil, inl, inr}
use Rattle.std.specs.Prelude.{if◌then◌else◌, slice_get}
use Rattle.std.proofs.lemmas.Bool.{cases_eq, cond-false, cond-true, eq-eqb, eqb-true, ne_eqb}
use Rattle.drills.specs.Drills.{DrillTold, begun, behind, ends_at, started}
use Rattle.drills.specs.Grammar.{Part, made, no_drill, of_list, of_trace, with_part}
use Rattle.drills.specs.Pieces.{AreConcatenated, BeginsBehind, entries_of, receipts_of}
use Rattle.drills.proofs.Grammars.{made_after}
use Rattle.drills.proofs.Parts.{followed, list_put, mapped, passed, trace_put}

-- what a part has, and nothing where there is none
abbrev of : {A : Type 0} → ℕ → List (List A) → List A
of k parts = get_or parts k []

behind_at : {A : Type 0} (n : ℕ) (more : List A) (parts next : List (List A)) → behind n more parts ≡ Some next →
    of n next ≡ of n parts ++ more
behind_at n more [] next e = absurd cc
behind_at zero more (part ∷ parts) next e =
    let same : (part ++ more) ∷ parts ≡ next = cc in
    ap (of 0) (sym same)
behind_at {A} (suc n) more (part ∷ parts) next e =
    let found = mapped (λ (rest : List (List A)). part ∷ rest) (behind n more parts) next e in
    ap (of (suc n)) (sym found.2) ∙ behind_at n more parts found.0 found.1

behind_others : {A : Type 0} (n : ℕ) (more : List A) (parts next : List (List A)) → behind n more parts ≡ Some next →
    (k : ℕ) → (n ≡ k → ⊥) → of k next ≡ of k parts
behind_others n more [] next e k other = absurd cc
behind_others zero more (part ∷ parts) next e zero other = absurd (other refl)
behind_others zero more (part ∷ parts) next e (suc k) other =
    let same : (part ++ more) ∷ parts ≡ next = cc in
    ap (of (suc k)) (sym same)
behind_others {A} (suc n) more (part ∷ parts) next e zero other =
    let found = mapped (λ (rest : List (List A)). part ∷ rest) (behind n more parts) next e in
    ap (of 0) (sym found.2)
behind_others {A} (suc n) more (part ∷ parts) next e (suc k) other =
    let found = mapped (λ (rest : List (List A)). part ∷ rest) (behind n more parts) next e in
    ap (of (suc k)) (sym found.2) ∙ behind_others n more parts found.0 found.1 k (λ same. other (ap suc same))

behind_told : {A : Type 0} (n : ℕ) (more : List A) (parts next : List (List A)) → behind n more parts ≡ Some next →
    (k : ℕ) → of k next ≡ of k parts ++ (if n == k then more else [])
behind_told n more parts next e k = elim (cases_eq n k) [
  | inl same ↦
      ap (λ i. of i next) (sym same) ∙ behind_at n more parts next e ∙ ap (λ i. of i parts ++ more) same
      ∙ ap (λ xs. of k parts ++ xs) (sym (cond-true (n == k) more [] (eq-eqb n k same)))
  | inr other ↦
      behind_others n more parts next e k other ∙ sym (append-nil (of k parts))
      ∙ ap (λ xs. of k parts ++ xs) (sym (cond-false (n == k) more [] (ne_eqb n k other)))
]

one_empty : {A : Type 0} (parts : List (List A)) (k : ℕ) → of k (parts ++ [] ∷ []) ≡ of k parts
one_empty [] zero = refl
one_empty [] (suc k) = refl
one_empty (part ∷ parts) zero = refl
one_empty (part ∷ parts) (suc k) = one_empty parts k

begun_told : {A : Type 0} (n : ℕ) (parts next : List (List A)) → begun n parts ≡ Some next → (k : ℕ) →
    of k next ≡ of k parts
begun_told n parts next e k =
    let found = passed (n == length parts) (Some (parts ++ [] ∷ [])) next e in
    let same : parts ++ [] ∷ [] ≡ next = (let there = found.1 in cc) in
    ap (of k) (sym same) ∙ one_empty parts k

gone_on_told : {A : Type 0} (n from : ℕ) (parts next : List (List A)) (there : Bool) →
    (if there then Some parts else (if from == 0 then begun n parts else None)) ≡ Some next → (k : ℕ) →
    of k next ≡ of k parts
gone_on_told n from parts next true e k = let same : parts ≡ next = cc in ap (of k) (sym same)
gone_on_told n from parts next false e k = begun_told n parts next (passed (from == 0) (begun n parts) next e).1 k

started_told : {A : Type 0} (pieces : Bool) (n : ℕ) (from : Option ℕ) (parts next : List (List A)) →
    started pieces n from parts ≡ Some next → (k : ℕ) → of k next ≡ of k parts
started_told pieces n None parts next e k = begun_told n parts next e k
started_told false n (Some from) parts next e k = absurd cc
started_told true n (Some from) parts next e k =
    gone_on_told n from parts next (ends_at from (slice_get parts n)) e k

traces_told : (pieces : Bool) (d : DrillTold) (part : Part) (next : DrillTold) → with_part pieces d part ≡ Some next →
    (k : ℕ) → of k next.traces ≡ of k d.traces ++ entries_of k part
traces_told pieces d (of_trace node from entries) next e k =
    let put = trace_put pieces d node from entries next e in
    behind_told node entries put.start next.traces put.traces k
    ∙ ap (λ t. t ++ (if node == k then entries else [])) (started_told pieces node from d.traces put.start put.starts k)
traces_told pieces d (of_list number from receipts) next e k =
    let put = list_put pieces d number from receipts next e in
    ap (of k) put.traces ∙ sym (append-nil (of k d.traces))

lists_told : (pieces : Bool) (d : DrillTold) (part : Part) (next : DrillTold) → with_part pieces d part ≡ Some next →
    (k : ℕ) → of k next.lists ≡ of k d.lists ++ receipts_of k part
lists_told pieces d (of_trace node from entries) next e k =
    let put = trace_put pieces d node from entries next e in
    ap (of k) put.lists ∙ sym (append-nil (of k d.lists))
lists_told pieces d (of_list number from receipts) next e k =
    let put = list_put pieces d number from receipts next e in
    behind_told number receipts put.start next.lists put.lists k
    ∙ ap (λ l. l ++ (if number == k then receipts else [])) (started_told pieces number from d.lists put.start
    put.starts k)

all_traces : (pieces : Bool) (parts : List Part) (d next : DrillTold) → made pieces d parts ≡ Some next → (k : ℕ) →
    of k next.traces ≡ of k d.traces ++ flat_map (entries_of k) parts
all_traces pieces [] d next e k =
    ap (of k) (let same : d ≡ next = cc in sym (ap (λ (d : DrillTold). d.traces) same))
    ∙ sym (append-nil (of k d.traces))
all_traces pieces (part ∷ parts) d next e k =
    let step = followed (λ mid. made pieces mid parts) (with_part pieces d part) next e in
    all_traces pieces parts step.0 next step.2 k
    ∙ ap (λ t. t ++ flat_map (entries_of k) parts) (traces_told pieces d part step.0 step.1 k)
    ∙ append_assoc (of k d.traces) (entries_of k part) (flat_map (entries_of k) parts)

all_lists : (pieces : Bool) (parts : List Part) (d next : DrillTold) → made pieces d parts ≡ Some next → (k : ℕ) →
    of k next.lists ≡ of k d.lists ++ flat_map (receipts_of k) parts
all_lists pieces [] d next e k =
    ap (of k) (let same : d ≡ next = cc in sym (ap (λ (d : DrillTold). d.lists) same)) ∙ sym (append-nil (of k d.lists))
all_lists pieces (part ∷ parts) d next e k =
    let step = followed (λ mid. made pieces mid parts) (with_part pieces d part) next e in
    all_lists pieces parts step.0 next step.2 k
    ∙ ap (λ l. l ++ flat_map (receipts_of k) parts) (lists_told pieces d part step.0 step.1 k)
    ∙ append_assoc (of k d.lists) (receipts_of k part) (flat_map (receipts_of k) parts)

pub are_concatenated : (pieces : Bool) (parts : List Part) (d : DrillTold) → made pieces no_drill parts ≡ Some d →
    AreConcatenated parts d
are_concatenated pieces parts d e = record {
  traces = all_traces pieces parts no_drill d e;
  lists = all_lists pieces parts no_drill d e;
}

-- ---- where a piece begins

ends : {A : Type 0} (n from : ℕ) (parts : List (List A)) → ends_at from (slice_get parts n) ≡ true →
    from ≡ length (of n parts)
ends n from [] e = absurd cc
ends zero from (part ∷ parts) e = eqb-true from (length part) e
ends (suc n) from (part ∷ parts) e = ends n from parts e

none_past : {A : Type 0} (parts : List (List A)) → of (length parts) parts ≡ []
none_past [] = refl
none_past (part ∷ parts) = none_past parts

gone_on_from : {A : Type 0} (n from : ℕ) (parts next : List (List A)) (there : Bool) →
    ends_at from (slice_get parts n) ≡ there
    → (if there then Some parts else (if from == 0 then begun n parts else None)) ≡ Some next
    → from ≡ length (of n parts)
gone_on_from n from parts next true is e = ends n from parts is
gone_on_from n from parts next false is e =
    let none = passed (from == 0) (begun n parts) next e in
    let place = passed (n == length parts) (Some (parts ++ [] ∷ [])) next none.1 in
    eqb-true from 0 none.0
    ∙ ap length (sym (none_past parts))
    ∙ ap (λ k. length (of k parts)) (sym (eqb-true n (length parts) place.0))

started_from : {A : Type 0} (pieces : Bool) (n from : ℕ) (parts next : List (List A)) →
    started pieces n (Some from) parts ≡ Some next → from ≡ length (of n parts)
started_from false n from parts next e = absurd cc
started_from true n from parts next e = gone_on_from n from parts next (ends_at from (slice_get parts n)) refl e

pub begins_behind : (pieces : Bool) (before after : List Part) (d : DrillTold) → BeginsBehind before after d pieces
begins_behind pieces before after d = record {
  traces = λ node from entries e.
      let part = of_trace node (Some from) entries in
      let step = followed (λ mid. made pieces mid (part ∷ after)) (made pieces no_drill before) d
      (sym (made_after pieces no_drill before (part ∷ after)) ∙ e) in
      let put = followed (λ mid. made pieces mid after) (with_part pieces step.0 part) d step.2 in
      let start = trace_put pieces step.0 node (Some from) entries put.0 put.1 in
      started_from pieces node from step.0.traces start.start start.starts
      ∙ ap length (all_traces pieces before no_drill step.0 step.1 node);
  lists = λ number from receipts e.
      let part = of_list number (Some from) receipts in
      let step = followed (λ mid. made pieces mid (part ∷ after)) (made pieces no_drill before) d
      (sym (made_after pieces no_drill before (part ∷ after)) ∙ e) in
      let put = followed (λ mid. made pieces mid after) (with_part pieces step.0 part) d step.2 in
      let start = list_put pieces step.0 number (Some from) receipts put.0 put.1 in
      started_from pieces number from step.0.lists start.start start.starts
      ∙ ap length (all_lists pieces before no_drill step.0 step.1 number);
}
