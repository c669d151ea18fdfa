-- Lists over the numbers below one.
use Rattle.std.proofs.Common.{◌≡◌, ◌==◌, ℕ, suc, zero, ◌+◌, ◌-◌, not, cond, List, [], ◌∷◌, ◌++◌, map, length, ap, sym, ◌∙◌, arith, ◌≤◌, ◌≢◌, eq-eqb, false, inl, inr}
use Rattle.std.specs.List.{filter, flat_map, range_with_len}
use Rattle.std.proofs.lemmas.List.{map-append, append-nil, length-map}
use Rattle.std.proofs.lemmas.List.Elements.{filter-append}
use Rattle.std.proofs.lemmas.Grind.{flat_map-append}
use Rattle.std.proofs.lemmas.Bool.Decides.{eqb_tells}
use Rattle.std.proofs.lemmas.List.Sums.{length-filter, count_by-le-length}
use Rattle.std.proofs.lemmas.List.FromFn.{length-range_with_len}

-- of the numbers, those that aren't this one
abbrev pub but : ℕ → ℕ → List ℕ
but own n = filter (λ k. not (k == own)) (range_with_len 0 n)

pub range_split : (a n d : ℕ) → range_with_len a (n + d) ≡ range_with_len a n ++ range_with_len (a + n) d
range_split a zero d =
    let n : 0 + d ≡ d = omega arith in
    let b : a + 0 ≡ a = omega arith in
    ap (range_with_len a) n ∙ sym (ap (λ k. range_with_len k d) b)
range_split a (suc n) d =
    let m : suc n + d ≡ suc (n + d) = omega arith in
    let b : a + 1 + n ≡ a + suc n = omega arith in
    ap (range_with_len a) m ∙ ap (λ l. a ∷ l) (range_split (a + 1) n d ∙
    ap (λ k. range_with_len (a + 1) n ++ range_with_len k d) b)

pub over_rest : {X : Type 0} (f : ℕ → List X) (n d : ℕ) → flat_map f (range_with_len 0 (n + d)) ≡ flat_map f
    (range_with_len 0 n) ++ flat_map f (range_with_len (0 + n) d)
over_rest f n d = ap (flat_map f) (range_split 0 n d) ∙ flat_map-append f (range_with_len 0 n)
    (range_with_len (0 + n) d)

pub but_rest : {X : Type 0} (f : ℕ → X) (own n d : ℕ) → map f (but own (n + d)) ≡ map f (but own n) ++
    map f (filter (λ k. not (k == own)) (range_with_len (0 + n) d))
but_rest f own n d =
    ap (λ l. map f (filter (λ k. not (k == own)) l)) (range_split 0 n d)
    ∙ ap (map f) (filter-append (λ k. not (k == own)) (range_with_len 0 n) (range_with_len (0 + n) d))
    ∙ map-append f (but own n) (filter (λ k. not (k == own)) (range_with_len (0 + n) d))

pub over_more : {X : Type 0} (f : ℕ → List X) (n : ℕ) → flat_map f (range_with_len 0 (n + 1)) ≡ flat_map f
    (range_with_len 0 n) ++ f n
over_more f n =
    let b : 0 + n ≡ n = omega arith in
    over_rest f n 1 ∙ ap (λ k. flat_map f (range_with_len 0 n) ++ (f k ++ [])) b ∙
    ap (λ l. flat_map f (range_with_len 0 n) ++ l) (append-nil (f n))

pub but_more : {X : Type 0} (f : ℕ → X) (own n : ℕ) → map f (but own (n + 1)) ≡ map f (but own n) ++
    map f (cond (not (n == own)) (n ∷ []) [])
but_more f own n =
    let b : 0 + n ≡ n = omega arith in
    but_rest f own n 1 ∙ ap (λ k. map f (but own n) ++ map f (cond (not (k == own)) (k ∷ []) [])) b

pub unequal : (a b : ℕ) → a ≢ b → (a == b) ≡ false
unequal a b ne = elim (eqb_tells a b) [ inl t ↦ absurd (ne t.1) | inr t ↦ t.0 ]

-- one more, which is another, or this one
pub but_another : {X : Type 0} (f : ℕ → X) (own n : ℕ) → n ≢ own →
    map f (but own (n + 1)) ≡ map f (but own n) ++ f n ∷ []
but_another f own n ne = but_more f own n ∙ ap (λ b. map f (but own n) ++ map f (cond (not b) (n ∷ []) []))
    (unequal n own ne)

pub but_itself : {X : Type 0} (f : ℕ → X) (own n : ℕ) → n ≡ own → map f (but own (n + 1)) ≡ map f (but own n)
but_itself f own n e = but_more f own n ∙ ap (λ b. map f (but own n) ++ map f (cond (not b) (n ∷ []) []))
    (eq-eqb n own e) ∙ append-nil (map f (but own n))

-- the same of the numbers themselves
others_rest : (own n d : ℕ) → but own (n + d) ≡ but own n ++ filter (λ k. not (k == own)) (range_with_len (0 + n) d)
others_rest own n d =
    ap (filter (λ k. not (k == own))) (range_split 0 n d)
    ∙ filter-append (λ k. not (k == own)) (range_with_len 0 n) (range_with_len (0 + n) d)

others_more : (own n : ℕ) → but own (n + 1) ≡ but own n ++ cond (not (n == own)) (n ∷ []) []
others_more own n =
    let b : 0 + n ≡ n = omega arith in
    others_rest own n 1 ∙ ap (λ k. but own n ++ cond (not (k == own)) (k ∷ []) []) b

pub one_other_more : (own n : ℕ) → n ≢ own → but own (n + 1) ≡ but own n ++ n ∷ []
one_other_more own n ne = others_more own n ∙ ap (λ b. but own n ++ cond (not b) (n ∷ []) []) (unequal n own ne)

pub no_other_more : (own n : ℕ) → n ≡ own → but own (n + 1) ≡ but own n
no_other_more own n e = others_more own n ∙ ap (λ b. but own n ++ cond (not b) (n ∷ []) []) (eq-eqb n own e) ∙
    append-nil (but own n)

pub others_up_to : (own n all : ℕ) → n ≤ all → but own all ≡ but own n ++
    filter (λ k. not (k == own)) (range_with_len (0 + n) (all - n))
others_up_to own n all le =
    let e : all ≡ n + (all - n) = omega arith in
    ap (but own) e ∙ others_rest own n (all - n)

pub turns_up_to : {X : Type 0} (f : ℕ → List X) (n all : ℕ) → n ≤ all → flat_map f (range_with_len 0 all) ≡ flat_map f
    (range_with_len 0 n) ++ flat_map f (range_with_len (0 + n) (all - n))
turns_up_to f n all le =
    let e : all ≡ n + (all - n) = omega arith in
    ap (λ k. flat_map f (range_with_len 0 k)) e ∙ over_rest f n (all - n)

pub length_but : {X : Type 0} (f : ℕ → X) (own n : ℕ) → length (map f (but own n)) ≤ n
length_but f own n = omega (
  arith,
  length-map (but own n) f,
  length-filter (λ k. not (k == own)) (range_with_len 0 n),
  count_by-le-length (λ k. not (k == own)) (range_with_len 0 n),
  length-range_with_len 0 n,
)
