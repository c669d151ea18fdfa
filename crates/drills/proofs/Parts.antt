-- Parts that begin or go on, and what is put behind them.
use Rattle.std.proofs.Common.{◌≡◌, ℕ, zero, suc, ◌==◌, Bool, true, false, List, [], ◌∷◌, ◌++◌, length, map, Option, Some, None, refl, sym, ap, ◌∙◌, append_assoc, append-nil}
use Rattle.std.specs.Prelude.{if◌then◌else◌, option_map, option_and_then, slice_get, slice_set}
use Rattle.std.proofs.lemmas.Bool.{eqb-true}
use Rattle.node_calls.specs.Told.{Told}
use Rattle.drills.specs.Lines.{ReceiptTold}
use Rattle.drills.specs.Drills.{DrillTold, begun, behind, ends_at, started, takes_trace}
use Rattle.drills.specs.Grammar.{of_list, of_trace, with_more, with_part}

abbrev pub drill : List (List Told) → List (List ReceiptTold) → DrillTold
drill traces lists = record { traces = traces; lists = lists }

pub mapped : {A B : Type 0} (f : A → B) (o : Option A) (y : B) → option_map f o ≡ Some y →
    (x : A) × (o ≡ Some x) × (f x ≡ y)
mapped f None y e = absurd cc
mapped f (Some x) y e = (x, refl, cc)

pub passed : {A : Type 0} (b : Bool) (o : Option A) (y : A) → (if b then o else None) ≡ Some y →
    (b ≡ true) × (o ≡ Some y)
passed true o y e = (refl, e)
passed false o y e = absurd cc

pub followed : {A B : Type 0} (f : A → Option B) (o : Option A) (y : B) → option_and_then f o ≡ Some y →
    (x : A) × (o ≡ Some x) × (f x ≡ Some y)
followed f None y e = absurd cc
followed f (Some x) y e = (x, refl, e)

-- ---- behind a part

pub behind_split : {A : Type 0} (n : ℕ) (xs ys : List A) (parts next : List (List A)) →
    behind n (xs ++ ys) parts ≡ Some next
    → (mid : List (List A)) × (behind n xs parts ≡ Some mid) × (behind n ys mid ≡ Some next)
behind_split n xs ys [] next e = absurd cc
behind_split zero xs ys (part ∷ parts) next e =
    ((part ++ xs) ∷ parts, refl, ap (λ p. Some (p ∷ parts)) (append_assoc part xs ys) ∙ e)
behind_split {A} (suc n) xs ys (part ∷ parts) next e =
    let found = mapped (λ (rest : List (List A)). part ∷ rest) (behind n (xs ++ ys) parts) next e in
    let rest = behind_split n xs ys parts found.0 found.1 in (
      part ∷ rest.0,
      ap (option_map (λ ps. part ∷ ps)) rest.1,
      ap (option_map (λ ps. part ∷ ps)) rest.2 ∙ ap (λ ps. Some ps) found.2,
    )

pub behind_both : {A : Type 0} (n : ℕ) (xs ys : List A) (parts mid next : List (List A)) →
    behind n xs parts ≡ Some mid → behind n ys mid ≡ Some next → behind n (xs ++ ys) parts ≡ Some next
behind_both n xs ys [] mid next e f = absurd cc
behind_both zero xs ys (part ∷ parts) mid next e f =
    let same : (part ++ xs) ∷ parts ≡ mid = cc in
    ap (λ p. Some (p ∷ parts)) (sym (append_assoc part xs ys)) ∙ ap (behind 0 ys) same ∙ f
behind_both {A} (suc n) xs ys (part ∷ parts) mid next e f =
    let found = mapped (λ (rest : List (List A)). part ∷ rest) (behind n xs parts) mid e in
    let more = mapped (λ (rest : List (List A)). part ∷ rest) (behind n ys found.0) next
    (ap (behind (suc n) ys) found.2 ∙ f) in
    ap (option_map (λ ps. part ∷ ps)) (behind_both n xs ys parts found.0 more.0 found.1 more.1) ∙
    ap (λ ps. Some ps) more.2

-- nothing behind it
pub behind_same : {A : Type 0} (n : ℕ) (parts next : List (List A)) → behind n [] parts ≡ Some next → parts ≡ next
behind_same n [] next e = absurd cc
behind_same zero (part ∷ parts) next e =
    let same : (part ++ []) ∷ parts ≡ next = cc in
    ap (λ p. p ∷ parts) (sym (append-nil part)) ∙ same
behind_same {A} (suc n) (part ∷ parts) next e =
    let found = mapped (λ (rest : List (List A)). part ∷ rest) (behind n [] parts) next e in
    ap (λ ps. part ∷ ps) (behind_same n parts found.0 found.1) ∙ found.2

behind_there : {A : Type 0} (n from : ℕ) (parts : List (List A)) → ends_at from (slice_get parts n) ≡ true →
    behind n [] parts ≡ Some parts
behind_there n from [] e = absurd cc
behind_there zero from (part ∷ parts) e = ap (λ p. Some (p ∷ parts)) (append-nil part)
behind_there (suc n) from (part ∷ parts) e =
    ap (option_map (λ ps. part ∷ ps)) (behind_there n from parts e)

pub behind_last : {A : Type 0} (parts : List (List A)) (part more : List A) →
    behind (length parts) more (parts ++ part ∷ []) ≡ Some (parts ++ (part ++ more) ∷ [])
behind_last [] part more = refl
behind_last (p ∷ parts) part more = ap (option_map (λ ps. p ∷ ps)) (behind_last parts part more)

-- the code's parts
pub put_behind : {P T : Type 0} (tell : P → List T) (parts : List P) (n : ℕ) (part longer : P) (more : List T) →
    slice_get parts n ≡ Some part → tell longer ≡ tell part ++ more
    → behind n more (map tell parts) ≡ Some (map tell (slice_set parts n longer))
put_behind tell [] n part longer more is grown = absurd cc
put_behind tell (p ∷ parts) zero part longer more is grown =
    let same : p ≡ part = cc in
    ap (λ q. Some ((tell q ++ more) ∷ map tell parts)) same ∙ ap (λ t. Some (t ∷ map tell parts)) (sym grown)
put_behind tell (p ∷ parts) (suc n) part longer more is grown =
    ap (option_map (λ ps. tell p ∷ ps)) (put_behind tell parts n part longer more is grown)

pub none_behind : {P T : Type 0} (tell : P → List T) (parts : List P) (n : ℕ) (more : List T) →
    slice_get parts n ≡ None → behind n more (map tell parts) ≡ None
none_behind tell [] n more is = refl
none_behind tell (p ∷ parts) zero more is = absurd cc
none_behind tell (p ∷ parts) (suc n) more is =
    ap (option_map (λ ps. tell p ∷ ps)) (none_behind tell parts n more is)

-- ---- parts that start

begun_there : {A : Type 0} (n : ℕ) (parts next : List (List A)) → begun n parts ≡ Some next →
    behind n [] next ≡ Some next
begun_there {A} n parts next e =
    let found = passed (n == length parts) (Some (parts ++ [] ∷ [])) next e in
    let same : parts ++ [] ∷ [] ≡ next = (let there = found.1 in cc) in
    ap (behind n []) (sym same)
    ∙ ap (λ k. behind k [] (parts ++ [] ∷ [])) (eqb-true n (length parts) found.0)
    ∙ behind_last parts [] []
    ∙ ap (λ ps. Some ps) same

gone_on_there : {A : Type 0} (n from : ℕ) (parts next : List (List A)) (there : Bool) →
    ends_at from (slice_get parts n) ≡ there
    → (if there then Some parts else (if from == 0 then begun n parts else None)) ≡ Some next
    → behind n [] next ≡ Some next
gone_on_there n from parts next true is e =
    let same : parts ≡ next = cc in
    ap (behind n []) (sym same) ∙ behind_there n from parts is ∙ ap (λ ps. Some ps) same
gone_on_there n from parts next false is e =
    begun_there n parts next (passed (from == 0) (begun n parts) next e).1

-- what started is there
pub started_there : {A : Type 0} (pieces : Bool) (n : ℕ) (from : Option ℕ) (parts next : List (List A)) →
    started pieces n from parts ≡ Some next → behind n [] next ≡ Some next
started_there pieces n None parts next e = begun_there n parts next e
started_there false n (Some from) parts next e = absurd cc
started_there true n (Some from) parts next e =
    gone_on_there n from parts next (ends_at from (slice_get parts n)) refl e

-- ---- a part more

pub record TracePut (pieces : Bool) (d : DrillTold) (node : ℕ) (from : Option ℕ) (entries : List Told)
    (next : DrillTold) : Type 0 where
  pub start : List (List Told)
  pub takes : takes_trace pieces d.lists ≡ true
  pub starts : started pieces node from d.traces ≡ Some start
  pub traces : behind node entries start ≡ Some next.traces
  pub lists : next.lists ≡ d.lists

pub trace_put : (pieces : Bool) (d : DrillTold) (node : ℕ) (from : Option ℕ) (entries : List Told)
    (next : DrillTold) → with_part pieces d (of_trace node from entries) ≡ Some next →
    TracePut pieces d node from entries next
trace_put pieces d node from entries next e =
    let put = passed (takes_trace pieces d.lists) (option_map (λ (traces : List (List Told)).
    record d { traces = traces }) (with_more pieces node from entries d.traces)) next e in
    let found = mapped (λ (traces : List (List Told)). record d { traces = traces })
    (with_more pieces node from entries d.traces) next put.1 in
    let step = followed (behind node entries) (started pieces node from d.traces) found.0 found.1 in
    record {
      start = step.0;
      takes = put.0;
      starts = step.1;
      traces = step.2 ∙ ap (λ (d : DrillTold). Some d.traces) found.2;
      lists = ap (λ (d : DrillTold). d.lists) (sym found.2);
    }

pub trace_puts : (pieces : Bool) (d : DrillTold) (node : ℕ) (from : Option ℕ) (entries : List Told)
    (start traces : List (List Told)) → takes_trace pieces d.lists ≡ true
    → started pieces node from d.traces ≡ Some start → behind node entries start ≡ Some traces
    → with_part pieces d (of_trace node from entries) ≡ Some (drill traces d.lists)
trace_puts pieces d node from entries start traces takes starts is =
    ap (λ b. if b then option_map (λ traces. record d { traces = traces })
    (with_more pieces node from entries d.traces) else None) takes
    ∙ ap (λ o. option_map (λ traces. record d { traces = traces }) (option_and_then (behind node entries) o)) starts
    ∙ ap (option_map (λ traces. record d { traces = traces })) is

pub record ListPut (pieces : Bool) (d : DrillTold) (number : ℕ) (from : Option ℕ) (receipts : List ReceiptTold)
    (next : DrillTold) : Type 0 where
  pub start : List (List ReceiptTold)
  pub starts : started pieces number from d.lists ≡ Some start
  pub lists : behind number receipts start ≡ Some next.lists
  pub traces : next.traces ≡ d.traces

pub list_put : (pieces : Bool) (d : DrillTold) (number : ℕ) (from : Option ℕ) (receipts : List ReceiptTold)
    (next : DrillTold) → with_part pieces d (of_list number from receipts) ≡ Some next →
    ListPut pieces d number from receipts next
list_put pieces d number from receipts next e =
    let found = mapped (λ (lists : List (List ReceiptTold)). record d { lists = lists })
    (with_more pieces number from receipts d.lists) next e in
    let step = followed (behind number receipts) (started pieces number from d.lists) found.0 found.1 in
    record {
      start = step.0;
      starts = step.1;
      lists = step.2 ∙ ap (λ (d : DrillTold). Some d.lists) found.2;
      traces = ap (λ (d : DrillTold). d.traces) (sym found.2);
    }

pub list_puts : (pieces : Bool) (d : DrillTold) (number : ℕ) (from : Option ℕ) (receipts : List ReceiptTold)
    (start lists : List (List ReceiptTold)) → started pieces number from d.lists ≡ Some start
    → behind number receipts start ≡ Some lists
    → with_part pieces d (of_list number from receipts) ≡ Some (drill d.traces lists)
list_puts pieces d number from receipts start lists starts is =
    ap (λ o. option_map (λ lists. record d { lists = lists }) (option_and_then (behind number receipts) o)) starts
    ∙ ap (option_map (λ lists. record d { lists = lists })) is
