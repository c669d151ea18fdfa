-- The greatest numbers of a list of counts, after one was added or raised, and without those of a key.
use Rattle.std.proofs.Common.{◌≡◌, ℕ, ◌<◌, max, Bool, true, false, cond, eqb, List, [], ◌∷◌, ◌++◌, Option, Some, None, length, zero, suc, slice_set, get_or, drop, refl, sym, ◌∙◌, ap, arith}
use Rattle.std.proofs.lemmas.List.Quantifiers.{position-Some}
use Rattle.std.proofs.lemmas.List.{get_or_read}
use Rattle.std.specs.List.{position, filter}
use Rattle.operations.specs.declared.counted.Counted.{Counted}
use Rattle.operations.specs.declared.counted.Counted.TheVariants.{Hits, Execs, Shifts}
use Rattle.operations.specs.declared.counted.Count.{Count}
use Rattle.replica_state.specs.Points.{raised_numbers, only_hits}
use Rattle.operations.specs.Counts.{same_counted, is_hits}
use Rattle.operations.proofs.Counts.{same_counted-true}
use Rattle.op_set.specs.Counts.{number_of}

-- a count at the end
pub number_of-append : (cs : List Count) (count : Count) (d : Counted) →
    number_of (cs ++ count ∷ []) d ≡ raised_numbers (Some count) (number_of cs) d
number_of-append [] count d = none (same_counted count.counted d)
  where
    none : (t : Bool) → max (cond t count.number 0) 0 ≡ cond t (max count.number 0) 0
    none true = refl
    none false = refl
number_of-append (c ∷ cs) count d = ap (λ n. max (cond (same_counted c.counted d) c.number 0) n)
    (number_of-append cs count d) ∙ more (cond (same_counted c.counted d) c.number 0) (number_of cs d)
    (same_counted count.counted d)
  where
    more : (a r : ℕ) (t : Bool) → max a (cond t (max count.number r) r) ≡ cond t (max count.number (max a r)) (max a r)
    more a r true = omega arith
    more a r false = refl

-- a count raised in its place
module _ (count y : Count) where
  pub number_of-set : (cs : List Count) (i : ℕ) → i < length cs →
      same_counted (get_or cs i y).counted count.counted ≡ true → y.counted ≡ (get_or cs i y).counted →
      y.number ≡ max (get_or cs i y).number count.number → (d : Counted) →
      number_of (slice_set cs i y) d ≡ raised_numbers (Some count) (number_of cs) d
  number_of-set [] i small same kept number d = absurd (omega arith)
  number_of-set (c ∷ cs) zero small same kept number d = ap (λ (k : Counted). max (cond (same_counted k d) y.number 0)
      (number_of cs d)) (kept ∙ alike) ∙ here (same_counted count.counted d) ∙
      ap (λ (k : Counted). cond (same_counted count.counted d)
      (max count.number (max (cond (same_counted k d) c.number 0) (number_of cs d)))
      (max (cond (same_counted k d) c.number 0) (number_of cs d))) (sym alike)
    where
      alike : c.counted ≡ count.counted
      alike = same_counted-true c.counted count.counted same

      here : (t : Bool) → max (cond t y.number 0) (number_of cs d) ≡ cond t
          (max count.number (max (cond t c.number 0) (number_of cs d))) (max (cond t c.number 0) (number_of cs d))
      here true = omega (arith, number)
      here false = refl
  number_of-set (c ∷ cs) (suc i) small same kept number d = ap (λ n. max (cond (same_counted c.counted d) c.number 0) n)
      (number_of-set cs i (omega arith) same kept number d) ∙
      more (cond (same_counted c.counted d) c.number 0) (number_of cs d) (same_counted count.counted d)
    where
      more : (a r : ℕ) (t : Bool) → max a (cond t (max count.number r) r) ≡ cond t (max count.number (max a r))
          (max a r)
      more a r true = omega arith
      more a r false = refl

-- where the place is the first that counts the same
pub number_of-raised : (cs : List Count) (count r : Count) (n : ℕ) (i : ℕ) →
    position (λ c. same_counted c.counted count.counted) cs ≡ Some i → r ≡ get_or cs i r →
    n ≡ max r.number count.number → (d : Counted) → number_of
    (slice_set cs i (record { counted = r.counted; number = n })) d ≡ raised_numbers (Some count) (number_of cs) d
number_of-raised cs count r n i at read more d =
    let y : Count = record { counted = r.counted; number = n } in
    let first = position-Some (λ (c : Count). same_counted c.counted count.counted) cs i y at in
    let here : r ≡ get_or cs i y = get_or_read cs i r first.0 read y in
    number_of-set count y cs i first.0 first.1 (ap (λ (c : Count). c.counted) here)
    (more ∙ ap (λ (c : Count). max c.number count.number) here) d

-- the hits alone
pub number_of-hits : (cs : List Count) (d : Counted) → number_of (filter (λ c. is_hits c.counted) cs) d ≡ only_hits
    (number_of cs) d
number_of-hits [] (Hits i) = refl
number_of-hits [] (Execs k i) = refl
number_of-hits [] (Shifts k i o) = refl
number_of-hits (c ∷ cs) d = step c.counted refl d (number_of-hits cs d)
  where
    step : (k : Counted) → c.counted ≡ k → (d : Counted) → number_of (filter (λ c. is_hits c.counted) cs) d ≡ only_hits
        (number_of cs) d → number_of (cond (is_hits k) (c ∷ filter (λ c. is_hits c.counted) cs)
        (filter (λ c. is_hits c.counted) cs)) d ≡ only_hits (λ d. max (cond (same_counted k d) c.number 0)
        (number_of cs d)) d
    step (Hits i) e (Hits j) rest = ap (λ (k : Counted). max (cond (same_counted k (Hits j)) c.number 0)
        (number_of (filter (λ c. is_hits c.counted) cs) (Hits j))) e ∙ ap (λ n. max (cond (eqb i j) c.number 0) n) rest
    step (Hits i) e (Execs l j) rest = ap (λ (k : Counted). max (cond (same_counted k (Execs l j)) c.number 0)
        (number_of (filter (λ c. is_hits c.counted) cs) (Execs l j))) e ∙ ap (λ n. max 0 n) rest
    step (Hits i) e (Shifts l j p) rest = ap (λ (k : Counted). max (cond (same_counted k (Shifts l j p)) c.number 0)
        (number_of (filter (λ c. is_hits c.counted) cs) (Shifts l j p))) e ∙ ap (λ n. max 0 n) rest
    step (Execs k i) e (Hits j) rest = rest ∙ omega arith
    step (Execs k i) e (Execs l j) rest = rest
    step (Execs k i) e (Shifts l j p) rest = rest
    step (Shifts k i o) e (Hits j) rest = rest ∙ omega arith
    step (Shifts k i o) e (Execs l j) rest = rest
    step (Shifts k i o) e (Shifts l j p) rest = rest

-- the greatest number so far, and that of the rest
pub number_of-step : (cs : List Count) (d : Counted) (i n : ℕ) (c : Count) → i < length cs → c ≡ get_or cs i c →
    max (cond (same_counted c.counted d) (max c.number n) n) (number_of (drop (suc i) cs) d) ≡ max n
    (number_of (drop i cs) d)
number_of-step [] d i n c small e = absurd (omega arith)
number_of-step (x ∷ cs) d zero n c small e = ap (λ (y : Count). max (cond (same_counted y.counted d) (max y.number n) n)
    (number_of cs d)) e ∙ one (same_counted x.counted d)
  where
    one : (t : Bool) → max (cond t (max x.number n) n) (number_of cs d) ≡ max n
        (max (cond t x.number 0) (number_of cs d))
    one true = omega arith
    one false = omega arith
number_of-step (x ∷ cs) d (suc i) n c small e = number_of-step cs d i n c (omega arith) e

-- a count more after the others than hits were dropped
pub number_of-kept : (cs ds es : List Count) → ds ≡ cs → ((d : Counted) → number_of es d ≡ only_hits (number_of ds) d) →
    (count : Option Count) (d : Counted) → raised_numbers count (number_of es) d ≡ raised_numbers count
    (only_hits (number_of cs)) d
number_of-kept cs ds es same kept count d = by_count count
  where
    here : number_of es d ≡ only_hits (number_of cs) d
    here = kept d ∙ ap (λ xs. only_hits (number_of xs) d) same

    by_count : (o : Option Count) → raised_numbers o (number_of es) d ≡ raised_numbers o (only_hits (number_of cs)) d
    by_count None = here
    by_count (Some c) = ap (λ n. cond (same_counted c.counted d) (max c.number n) n) here
