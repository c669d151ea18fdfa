-- Parcels between two nodes, one after the other.
use Rattle.std.proofs.Common.{◌≡◌, ◌≢◌, ◌⊎◌, inl, inr, ℕ, ◌+◌, ◌<◌, ◌≤◌, ◌==◌, ◌&&◌, max, cond, Bool, true, false, not, List, [], ◌∷◌, ◌++◌, filter, fold, nat_le, refl, sym, ◌∙◌, ap, subst, arith}
use Rattle.std.proofs.lemmas.Bool.{true≢false, and_parts, eqb-true}
use Rattle.std.proofs.lemmas.Bool.Decides.{leb_tells, eqb_tells}
use Rattle.counters.specs.Sums.{sum_below}
use Rattle.counters.proofs.SumLemmas.{sum-same, sum-add, sum-at, sum-zero}
use Rattle.drill_picture.specs.Stories.{ParcelTold as Parcel}
use Rattle.drill_picture.specs.Rights.{RowTold, after_arrival}
use Rattle.picture_laws.proofs.Rows.{RowIs, arrive_is}

-- ---- how many rights there are in parcels

abbrev pub amounts : List Parcel → ℕ
amounts [] = 0
amounts (p ∷ ps) = p.amount + amounts ps

-- in those that are for a node
abbrev pub amounts_to : ℕ → List Parcel → ℕ
amounts_to j [] = 0
amounts_to j (p ∷ ps) = cond (p.to == j) p.amount 0 + amounts_to j ps

-- those between two nodes
abbrev pub is_between : ℕ → ℕ → Parcel → Bool
is_between i j p = (i == p.from) && (p.to == j)

abbrev pub between : ℕ → ℕ → List Parcel → List Parcel
between i j ps = filter (is_between i j) ps

-- a parcel of a node below a number to another one, with a total
pub record IsSound (n : ℕ) (p : Parcel) : Type 0 where
  pub from : p.from < n
  pub apart : p.to ≢ p.from
  pub some : 1 ≤ p.total

abbrev pub AreSound : ℕ → List Parcel → Type 0
AreSound n [] = Unit {0}
AreSound n (p ∷ ps) = IsSound n p × AreSound n ps

amounts_if : (t : Bool) (p : Parcel) (ps : List Parcel) →
    amounts (cond t (p ∷ ps) ps) ≡ cond t p.amount 0 + amounts ps
amounts_if true p ps = refl
amounts_if false p ps = omega arith

split : (s t : Bool) (m : ℕ) → ◌≡◌ {A = ℕ} (cond (s && t) m 0) (cond s (cond t m 0) 0)
split true t m = refl
split false t m = refl

-- for a node are those from all others to it
pub amounts_by : (n j : ℕ) (ps : List Parcel) → AreSound n ps →
    amounts_to j ps ≡ sum_below n (λ i. amounts (between i j ps))
amounts_by n j [] low = sym (sum-zero n (λ i. 0) (λ i. refl))
amounts_by n j (p ∷ ps) low =
    let rest = amounts_by n j ps low.1 in
    let m : ℕ = cond (p.to == j) p.amount 0 in
    let each : sum_below n (λ i. amounts (between i j (p ∷ ps))) ≡ sum_below n
    (λ i. cond (i == p.from) m 0 + amounts (between i j ps)) =
    sum-same n _ _ (λ i l. amounts_if (is_between i j p) p (between i j ps)
    ∙ ap (λ k. k + amounts (between i j ps)) (split (i == p.from) (p.to == j) p.amount)) in
    let both = sum-add n (λ i. cond (i == p.from) m 0) (λ i. amounts (between i j ps)) in
    let one = sum-at n p.from m low.0.from in
    omega (arith, rest, each, both, one)

pub amounts_append : (a b : List Parcel) → amounts (a ++ b) ≡ amounts a + amounts b
amounts_append [] b = omega arith
amounts_append (p ∷ a) b = let rest = amounts_append a b in omega (arith, rest)

pub amounts_to_append : (j : ℕ) (a b : List Parcel) → amounts_to j (a ++ b) ≡ amounts_to j a + amounts_to j b
amounts_to_append j [] b = omega arith
amounts_to_append j (p ∷ a) b = let rest = amounts_to_append j a b in omega (arith, rest)

pub sound_append : (n : ℕ) (a b : List Parcel) → AreSound n a → AreSound n b → AreSound n (a ++ b)
sound_append n [] b f g = g
sound_append n (p ∷ a) b f g = (f.0, sound_append n a b f.1 g)

pub sound_filter : (n : ℕ) (t : Parcel → Bool) (ps : List Parcel) → AreSound n ps → AreSound n (filter t ps)
sound_filter n t [] f = tt
sound_filter n t (p ∷ ps) f = at (sound_filter n t ps f.1) (t p)
  where
    at : AreSound n (filter t ps) → (b : Bool) → AreSound n (cond b (p ∷ filter t ps) (filter t ps))
    at rest true = (f.0, rest)
    at rest false = rest

-- from a node to itself there is none
pub none_within : (n i : ℕ) (ps : List Parcel) → AreSound n ps → between i i ps ≡ []
none_within n i [] f = refl
none_within n i (p ∷ ps) f = at (none_within n i ps f.1) (is_between i i p) refl
  where
    at : between i i ps ≡ [] → (b : Bool) → is_between i i p ≡ b → cond b (p ∷ between i i ps) (between i i ps) ≡ []
    at rest true e =
        let parts = and_parts (i == p.from) (p.to == i) e in
        absurd (f.0.apart (eqb-true p.to i parts.1 ∙ eqb-true i p.from parts.0))
    at rest false e = rest

pub filter_append : (t : Parcel → Bool) (a b : List Parcel) → filter t (a ++ b) ≡ filter t a ++ filter t b
filter_append t [] b = refl
filter_append t (p ∷ a) b = at (filter_append t a b) (t p)
  where
    at : filter t (a ++ b) ≡ filter t a ++ filter t b → (s : Bool) →
        cond s (p ∷ filter t (a ++ b)) (filter t (a ++ b)) ≡ cond s (p ∷ filter t a) (filter t a) ++ filter t b
    at rest true = ap (λ l. p ∷ l) rest
    at rest false = rest

-- two filters that agree where another one lets something through
pub filter_within : (n : ℕ) (s t u : Parcel → Bool) (ps : List Parcel) → AreSound n ps →
    ((p : Parcel) → IsSound n p → s p ≡ true → t p ≡ u p) → filter s (filter t ps) ≡ filter u (filter s ps)
filter_within n s t u [] sound same = refl
filter_within n s t u (p ∷ ps) sound same =
    at (filter_within n s t u ps sound.1 same) (s p) (t p) (u p) refl refl refl
  where
    at : filter s (filter t ps) ≡ filter u (filter s ps) → (a b c : Bool) → s p ≡ a → t p ≡ b → u p ≡ c →
        filter s (cond b (p ∷ filter t ps) (filter t ps)) ≡ filter u (cond a (p ∷ filter s ps) (filter s ps))
    at rest true true true e f g =
        ap (λ x. cond x (p ∷ filter s (filter t ps)) (filter s (filter t ps))) e ∙ ap (λ l. p ∷ l) rest
        ∙ sym (ap (λ x. cond x (p ∷ filter u (filter s ps)) (filter u (filter s ps))) g)
    at rest true true false e f g = absurd (true≢false (sym f ∙ same p sound.0 e ∙ g))
    at rest true false true e f g = absurd (true≢false (sym g ∙ sym (same p sound.0 e) ∙ f))
    at rest true false false e f g =
        rest ∙ sym (ap (λ x. cond x (p ∷ filter u (filter s ps)) (filter u (filter s ps))) g)
    at rest false true c e f g = ap (λ x. cond x (p ∷ filter s (filter t ps)) (filter s (filter t ps))) e ∙ rest
    at rest false false c e f g = rest

-- a filter that lets all through that another one does
pub filter_all : (t : Parcel → Bool) (s : Parcel → Bool) (ps : List Parcel) →
    ((p : Parcel) → s p ≡ true → t p ≡ true) → filter t (filter s ps) ≡ filter s ps
filter_all t s [] each = refl
filter_all t s (p ∷ ps) each = at (filter_all t s ps each) (s p) refl
  where
    at : filter t (filter s ps) ≡ filter s ps → (b : Bool) → s p ≡ b →
        filter t (cond b (p ∷ filter s ps) (filter s ps)) ≡ cond b (p ∷ filter s ps) (filter s ps)
    at rest true e = ap (λ x. cond x (p ∷ filter t (filter s ps)) (filter t (filter s ps))) (each p e)
        ∙ ap (λ l. p ∷ l) rest
    at rest false e = rest

-- those for a node, which arrive or are left
pub amounts_parted : (t : Parcel → Bool) (j : ℕ) (ps : List Parcel) → ((p : Parcel) → t p ≡ true → (p.to == j) ≡ true) →
    amounts_to j ps ≡ amounts (filter t ps) + amounts_to j (filter (λ p. not (t p)) ps)
amounts_parted t j [] for = refl
amounts_parted t j (p ∷ ps) for = at (amounts_parted t j ps for) (t p) refl
  where
    at : amounts_to j ps ≡ amounts (filter t ps) + amounts_to j (filter (λ p. not (t p)) ps) → (b : Bool) → t p ≡ b → cond (p.to == j) p.amount 0 + amounts_to j ps ≡
        amounts (cond b (p ∷ filter t ps) (filter t ps))
        + amounts_to j (cond (not b) (p ∷ filter (λ p. not (t p)) ps) (filter (λ p. not (t p)) ps))
    at rest true e =
        let here : ◌≡◌ {A = ℕ} (cond (p.to == j) p.amount 0) p.amount = ap (λ x. cond x p.amount 0) (for p e) in
        omega (arith, rest, here)
    at rest false e = omega (arith, rest)

-- and for the others
pub amounts_other : (t : Parcel → Bool) (j : ℕ) (ps : List Parcel) → ((p : Parcel) → t p ≡ true → (p.to == j) ≡ false) →
    amounts_to j (filter (λ p. not (t p)) ps) ≡ amounts_to j ps
amounts_other t j [] for = refl
amounts_other t j (p ∷ ps) for = at (amounts_other t j ps for) (t p) refl
  where
    at : amounts_to j (filter (λ p. not (t p)) ps) ≡ amounts_to j ps → (b : Bool) → t p ≡ b → amounts_to j (cond (not b) (p ∷ filter (λ p. not (t p)) ps) (filter (λ p. not (t p)) ps))
        ≡ cond (p.to == j) p.amount 0 + amounts_to j ps
    at rest true e =
        let here : ◌≡◌ {A = ℕ} (cond (p.to == j) p.amount 0) 0 = ap (λ x. cond x p.amount 0) (for p e) in
        omega (arith, rest, here)
    at rest false e = omega (arith, rest)

-- ---- one after the other

-- each parcel goes on from the total before it
abbrev pub IsChain : ℕ → ℕ → List Parcel → Type 0
IsChain low high [] = low ≡ high
IsChain low high (p ∷ ps) = (p.total ≡ low + p.amount) × (1 ≤ p.amount) × IsChain p.total high ps

-- a total that was reached: that of one of them, or one before
abbrev pub IsTotalOf : ℕ → List Parcel → Type 0
IsTotalOf total [] = ⊥
IsTotalOf total (p ∷ ps) = (p.total ≡ total) ⊎ IsTotalOf total ps

abbrev pub IsReached : ℕ → ℕ → List Parcel → Type 0
IsReached total low ps = (total ≤ low) ⊎ IsTotalOf total ps

pub chain_sum : (low high : ℕ) (ps : List Parcel) → IsChain low high ps → amounts ps + low ≡ high
chain_sum low high [] is = omega (arith, is)
chain_sum low high (p ∷ ps) is =
    let here = is.0 in
    let rest = chain_sum p.total high ps is.2 in
    omega (arith, here, rest)

-- totals behind a parcel are greater
chain_above : (low high total : ℕ) (ps : List Parcel) → IsChain low high ps → IsTotalOf total ps → low < total
chain_above low high total [] is h = absurd h
chain_above low high total (p ∷ ps) is (inl e) =
    let here = is.0 in
    let some = is.1 in
    omega (arith, here, some, e)
chain_above low high total (p ∷ ps) is (inr h) =
    let here = is.0 in
    let rest = chain_above p.total high total ps is.2 h in
    omega (arith, here, rest)

pub chain_more : (low high amount : ℕ) (ps : List Parcel) (p : Parcel) → IsChain low high ps → p.amount ≡ amount →
    p.total ≡ high + amount → 1 ≤ amount → IsChain low (high + amount) (ps ++ p ∷ [])
chain_more low high amount [] p is e f some = (omega (arith, is, e, f), omega (arith, e, some), f)
chain_more low high amount (q ∷ ps) p is e f some = (is.0, is.1, chain_more q.total high amount ps p is.2 e f some)

pub total_more : (total : ℕ) (ps : List Parcel) (p : Parcel) → IsTotalOf total ps → IsTotalOf total (ps ++ p ∷ [])
total_more total [] p h = absurd h
total_more total (q ∷ ps) p (inl e) = inl e
total_more total (q ∷ ps) p (inr h) = inr (total_more total ps p h)

pub total_last : (total : ℕ) (ps : List Parcel) (p : Parcel) → p.total ≡ total → IsTotalOf total (ps ++ p ∷ [])
total_last total [] p e = inl e
total_last total (q ∷ ps) p e = inr (total_last total ps p e)

-- those that a total that was reached doesn't tell are left
abbrev pub left_by : ℕ → List Parcel → List Parcel
left_by total ps = filter (λ p. not (nat_le p.total total)) ps

left_first : (total : ℕ) (p : Parcel) (ps : List Parcel) → total < p.total → left_by total (p ∷ ps) ≡ p ∷ left_by total ps
left_first total p ps more = elim (leb_tells p.total total) [
  | inl w ↦ let few = w.1 in absurd (omega (arith, few, more))
  | inr w ↦ ap (λ t. cond (not t) (p ∷ left_by total ps) (left_by total ps)) w.0
]

left_none : (total : ℕ) (p : Parcel) (ps : List Parcel) → p.total ≤ total → left_by total (p ∷ ps) ≡ left_by total ps
left_none total p ps few = elim (leb_tells p.total total) [
  | inl w ↦ ap (λ t. cond (not t) (p ∷ left_by total ps) (left_by total ps)) w.0
  | inr w ↦ let more = w.1 in absurd (omega (arith, few, more))
]

pub chain_left : (low high total : ℕ) (ps : List Parcel) → IsChain low high ps → IsReached total low ps →
    IsChain (max total low) high (left_by total ps)
chain_left low high total [] is (inl few) = omega (arith, is, few)
chain_left low high total [] is (inr h) = absurd h
chain_left low high total (p ∷ ps) is (inl few) =
    let here = is.0 in
    let some = is.1 in
    let more : total < p.total = omega (arith, here, some, few) in
    let rest = chain_left p.total high total ps is.2 (inl (omega (arith, more))) in
    let same : max total p.total ≡ p.total = omega (arith, more) in
    let first : p.total ≡ max total low + p.amount = omega (arith, here, few) in
    subst (IsChain (max total low) high) (sym (left_first total p ps more))
    (first, some, subst (λ k. IsChain k high (left_by total ps)) same rest)
chain_left low high total (p ∷ ps) is (inr (inl e)) =
    let here = is.0 in
    let rest = chain_left p.total high total ps is.2 (inl (omega (arith, e))) in
    let same : max total p.total ≡ max total low = omega (arith, e, here) in
    subst (IsChain (max total low) high) (sym (left_none total p ps (omega (arith, e))))
    (subst (λ k. IsChain k high (left_by total ps)) same rest)
chain_left low high total (p ∷ ps) is (inr (inr h)) =
    let here = is.0 in
    let above = chain_above p.total high total ps is.2 h in
    let rest = chain_left p.total high total ps is.2 (inr h) in
    let same : max total p.total ≡ max total low = omega (arith, above, here) in
    subst (IsChain (max total low) high) (sym (left_none total p ps (omega (arith, above))))
    (subst (λ k. IsChain k high (left_by total ps)) same rest)

total_left : (total other : ℕ) (ps : List Parcel) → total < other → IsTotalOf other ps → IsTotalOf other (left_by total ps)
total_left total other [] more h = absurd h
total_left total other (p ∷ ps) more (inl e) =
    subst (IsTotalOf other) (sym (left_first total p ps (omega (arith, e, more)))) (inl e)
total_left total other (p ∷ ps) more (inr h) = elim (leb_tells p.total total) [
  | inl w ↦ subst (IsTotalOf other) (sym (left_none total p ps w.1)) (total_left total other ps more h)
  | inr w ↦ subst (IsTotalOf other) (sym (left_first total p ps w.1)) (inr (total_left total other ps more h))
]

pub reached_left : (low total other : ℕ) (ps : List Parcel) → IsReached other low ps →
    IsReached other (max total low) (left_by total ps)
reached_left low total other ps (inl few) = inl (omega (arith, few))
reached_left low total other ps (inr h) = elim (leb_tells other total) [
  | inl w ↦ (let few = w.1 in inl (omega (arith, few)))
  | inr w ↦ inr (total_left total other ps w.1 h)
]

-- ---- they arrive at a node

pub arrivals : (n setter yet whole spent node : ℕ) (held way way' : ℕ → ℕ) (ps : List Parcel) (row : RowTold) → node < n →
    ((j : ℕ) → j < n → way' j + cond (j == node) (amounts ps) 0 ≡ way j) →
    RowIs n setter yet whole spent held way row →
    RowIs n setter yet whole spent (λ i. held i + cond (i == node) (amounts ps) 0) way'
    (fold (λ r p. after_arrival node r p.amount) row ps)
arrivals n setter yet whole spent node held way way' [] row low less is = record {
  held_long = is.held_long;
  way_long = is.way_long;
  whole_is = is.whole_is;
  spent_is = is.spent_is;
  held_is = λ i below. let e = is.held_is i below in let f = nothing (i == node) in omega (arith, e, f);
  way_is = λ j below. let e = is.way_is j below in let f = nothing (j == node) in let g = less j below in
      omega (arith, e, f, g);
}
  where
    nothing : (t : Bool) → ◌≡◌ {A = ℕ} (cond t 0 0) 0
    nothing true = refl
    nothing false = refl
arrivals n setter yet whole spent node held way way' (p ∷ ps) row low less is =
    let first = arrive_is n setter yet whole spent node p.amount held way
    (λ j. way' j + cond (j == node) (amounts ps) 0) row low
    (let e = is.way_is node low in let f = less node low in let g = here (p.amount + amounts ps) in
    omega (arith, e, f, g))
    (λ j below. let f = less j below in let g = parted (j == node) p.amount (amounts ps) in omega (arith, f, g)) is in
    let rest = arrivals n setter yet whole spent node (λ i. held i + cond (i == node) p.amount 0)
    (λ j. way' j + cond (j == node) (amounts ps) 0) way' ps (after_arrival node row p.amount) low (λ j below. refl) first in
    record {
      held_long = rest.held_long;
      way_long = rest.way_long;
      whole_is = rest.whole_is;
      spent_is = rest.spent_is;
      held_is = λ i below. let e = rest.held_is i below in let g = parted (i == node) p.amount (amounts ps) in
          omega (arith, e, g);
      way_is = rest.way_is;
    }
  where
    parted : (t : Bool) (a b : ℕ) → cond t (a + b) 0 ≡ cond t a 0 + cond t b 0
    parted true a b = refl
    parted false a b = refl

    here : (m : ℕ) → ◌≡◌ {A = ℕ} (cond (node == node) m 0) m
    here m = elim (eqb_tells node node) [
      | inl w ↦ ap (λ t. cond t m 0) w.0
      | inr w ↦ absurd (w.1 refl)
    ]
