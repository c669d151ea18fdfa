-- Cutting a text at each `->`.
use Rattle.std.proofs.Common.{◌≡◌, ℕ, suc, ◌<◌, ◌≤◌, Bool, true, false, cond, eqb, not, ◌&&◌, List, [], ◌∷◌, ◌++◌, length, take, drop, Option, Some, None, Bor, refl, sym, ap, subst, ◌∙◌, arith, inl, inr}
use Rattle.std.specs.Prelude.{MatchOption}
use Rattle.std.specs.List.{onto_first}
use Rattle.std.specs.Str.Pattern.{FindsText, LacksTextAt}
use Rattle.std.specs.Str.Iter.{split_steps, split_text, split_has_more, split_pattern}
use Rattle.std.specs.declared.str.Split.{Split}
use Rattle.std.proofs.lemmas.Bool.{cases_eq, eq-eqb, ne_eqb, eqb-true, and_right, and_parts, and_from, not-true, cond_both}
use Rattle.std.proofs.lemmas.List.{take-append-drop, length-take}
use Rattle.std.proofs.lemmas.Iterator.{YieldsList}
use Rattle.std.proofs.lemmas.Iterator.Splits.{YieldsList-from_shown_while}
use Rattle.actions.specs.Reading.{pieces}
use Rattle.actions.proofs.ByteLemmas.{lacks}
use Rattle.actions.specs.Bytes.{dash, greater_sign}
use Rattle.actions.specs.Grammar.{arrow, LacksArrow, with_arrows}

-- the two bytes aren't `->`
not_arrow : (a b : ℕ) → (a ≡ dash → b ≡ greater_sign → ⊥) → (eqb a dash && eqb b greater_sign) ≡ false
not_arrow a b h =
    elim (cases_eq a dash) [
      | inl x ↦ rw (eq-eqb a dash x, ne_eqb b greater_sign (h x)) refl
      | inr x ↦ rw (ne_eqb a dash x) refl
    ]

pub pieces_none : (bs : List ℕ) → ((i : ℕ) → i ≤ length bs → LacksTextAt arrow bs i) → pieces bs ≡ bs ∷ []
unfolding pieces
pieces_none [] h = refl
pieces_none (a ∷ []) h = refl
pieces_none (a ∷ b ∷ bs) h =
    let here : a ≡ dash → b ≡ greater_sign → ⊥ =
    λ x y. h 0 (omega arith) bs (ap (λ (c : ℕ). c ∷ b ∷ bs) x ∙ ap (λ (c : ℕ). dash ∷ c ∷ bs) y) in
    let later : pieces (b ∷ bs) ≡ (b ∷ bs) ∷ [] = pieces_none (b ∷ bs) (λ i le. h (suc i) (omega arith)) in
    rw (not_arrow a b here, later) refl

pub pieces_first : (xs ys : List ℕ) → ((i : ℕ) → i < length xs → LacksTextAt arrow (xs ++ dash ∷ greater_sign ∷ ys) i)
    → pieces (xs ++ dash ∷ greater_sign ∷ ys) ≡ xs ∷ pieces ys
unfolding pieces
pieces_first [] ys h = refl
pieces_first (a ∷ []) ys h = rw (and_right (eqb a dash) (eqb dash greater_sign) refl) refl
pieces_first (a ∷ b ∷ xs) ys h =
    let here : a ≡ dash → b ≡ greater_sign → ⊥ =
    λ x y. h 0 (omega arith) (xs ++ dash ∷ greater_sign ∷ ys)
    (ap (λ (c : ℕ). c ∷ b ∷ (xs ++ dash ∷ greater_sign ∷ ys)) x ∙ ap
    (λ (c : ℕ). dash ∷ c ∷ (xs ++ dash ∷ greater_sign ∷ ys)) y) in
    let later : pieces ((b ∷ xs) ++ dash ∷ greater_sign ∷ ys) ≡ (b ∷ xs) ∷ pieces ys =
    pieces_first (b ∷ xs) ys (λ i lt. h (suc i) (omega arith)) in
    rw (not_arrow a b here, later) refl

-- what one step of `split` takes off
pub piece : (w x rest : List ℕ) (live : Bool) (o : Option (ℕ × ℕ)) → FindsText arrow w o
    → MatchOption o ((x ≡ w) × (live ≡ false)) (λ q. 0 < q.1 → (x ≡ take q.0 w) × (live ≡ true) × (rest ≡ drop q.1 w))
    → pieces w ≡ x ∷ cond live (pieces rest) []
piece w x rest live None finds h = rw (h.1, h.0) (pieces_none w finds)
piece w x rest live (Some q) finds h =
    let at = finds.1 in
    let t = h (omega (arith, at.ends)) in
    let whole : w ≡ take q.0 w ++ dash ∷ greater_sign ∷ drop q.1 w =
    sym (take-append-drop q.0 w) ∙ ap (λ (y : List ℕ). take q.0 w ++ y) at.split in
    let lacks : (i : ℕ) → i < length (take q.0 w) → LacksTextAt arrow (take q.0 w ++ dash ∷ greater_sign ∷ drop q.1 w)
    i =
    λ i lt. subst (λ (y : List ℕ). LacksTextAt arrow y i) whole (finds.0 i (omega (arith, length-take q.0 w))) in
    rw (t.1, t.0, t.2) (ap pieces whole ∙ pieces_first (take q.0 w) (drop q.1 w) lacks)

-- a text that is cut at each `->`; the last three facts are of the call's clauses
pub YieldsList-from_arrow_split : {s : Split (Bor (List ℕ))} (bs : List ℕ) → split_text s ≡ bs → split_has_more s ≡ true
    → (split_pattern s).now ≡ arrow
    → YieldsList (split_steps (λ (n : Bor (List ℕ)). FindsText n.now) (λ n m. m.now ≡ n.now)) (λ x. x.now) s (pieces bs)
YieldsList-from_arrow_split {s} bs text more pattern =
    let steps = split_steps (λ (n : Bor (List ℕ)). FindsText n.now) (λ n m. m.now ≡ n.now) in
    let shown = λ (t : _). cond (split_has_more t) (pieces (split_text t)) [] in
    subst (YieldsList steps (λ x. x.now) s) (λ i. cond (more i) (pieces (text i)) [])
    (YieldsList-from_shown_while steps (λ x. x.now) shown (λ t. (split_pattern t).now ≡ arrow)
    (λ t u h k. ap (λ b. length (cond b (pieces (split_text t)) [])) (sym k.0))
    (λ t x u h k.
    let cut = k.1.1.1 in (
      k.1.0 ∙ h,
      ap (λ b. cond b (pieces (split_text t)) []) (sym k.0)
          ∙ piece (split_text t) x.now (split_text u) (split_has_more u) cut.0
          (subst (λ d. FindsText d (split_text t) cut.0) h cut.1) cut.2,
    ))
    s pattern)

-- ---- `->` by a test that goes from left to right

abbrev pub no_arrow : List ℕ → Bool
no_arrow [] = true
no_arrow (a ∷ []) = true
no_arrow (a ∷ b ∷ bs) = not (eqb a dash && eqb b greater_sign) && no_arrow (b ∷ bs)

no_arrow_tail : (a : ℕ) (bs : List ℕ) → no_arrow (a ∷ bs) ≡ true → no_arrow bs ≡ true
no_arrow_tail a [] h = refl
no_arrow_tail a (b ∷ bs) h = (and_parts (not (eqb a dash && eqb b greater_sign)) (no_arrow (b ∷ bs)) h).1

front_lacks : (front back : List ℕ) → no_arrow (front ++ dash ∷ greater_sign ∷ back) ≡ true → ⊥
front_lacks [] back h = absurd cc
front_lacks (a ∷ front) back h = front_lacks front back (no_arrow_tail a (front ++ dash ∷ greater_sign ∷ back) h)

pub lacks_arrow : (s : List ℕ) → no_arrow s ≡ true → LacksArrow s
lacks_arrow s h = λ front back e. front_lacks front back (subst (λ (x : List ℕ). no_arrow x ≡ true) e h)

pub no_arrow_from : (s : List ℕ) → LacksArrow s → no_arrow s ≡ true
no_arrow_from [] h = refl
no_arrow_from (a ∷ []) h = refl
no_arrow_from (a ∷ b ∷ bs) h =
    let here = not_arrow a b (λ x y. h [] bs (ap (λ (c : ℕ). c ∷ b ∷ bs) x ∙ ap (λ (c : ℕ). dash ∷ c ∷ bs) y)) in
    and_from (not (eqb a dash && eqb b greater_sign)) (no_arrow (b ∷ bs)) (ap not here)
    (no_arrow_from (b ∷ bs) (λ front back e. h (a ∷ front) back (ap (λ (x : List ℕ). a ∷ x) e)))

-- ---- the pieces, joined again

joined_onto : (a : ℕ) (ps : List (List ℕ)) → with_arrows (onto_first a ps) ≡ a ∷ with_arrows ps
joined_onto a [] = refl
joined_onto a (p ∷ []) = refl
joined_onto a (p ∷ q ∷ ps) = refl

some_onto : (a : ℕ) (ps : List (List ℕ)) → 0 < length (onto_first a ps)
some_onto a [] = omega arith
some_onto a (p ∷ ps) = omega arith

pub some_pieces : (s : List ℕ) → 0 < length (pieces s)
unfolding pieces
some_pieces [] = omega arith
some_pieces (a ∷ []) = omega arith
some_pieces (a ∷ b ∷ bs) =
    cond_both (eqb a dash && eqb b greater_sign) ([] ∷ pieces bs) (onto_first a (pieces (b ∷ bs)))
    (λ (x : List (List ℕ)). 0 < length x) (λ _. omega arith) (λ _. some_onto a (pieces (b ∷ bs)))

joined_empty : (ps : List (List ℕ)) → 0 < length ps → with_arrows ([] ∷ ps) ≡ dash ∷ greater_sign ∷ with_arrows ps
joined_empty [] h = absurd (omega arith)
joined_empty (p ∷ ps) h = refl

pub joined_pieces : (s : List ℕ) → with_arrows (pieces s) ≡ s
unfolding pieces
joined_pieces [] = refl
joined_pieces (a ∷ []) = refl
joined_pieces (a ∷ b ∷ bs) =
    cond_both (eqb a dash && eqb b greater_sign) ([] ∷ pieces bs) (onto_first a (pieces (b ∷ bs)))
    (λ (x : List (List ℕ)). with_arrows x ≡ a ∷ b ∷ bs)
    (λ e.
    let both = and_parts (eqb a dash) (eqb b greater_sign) e in
    joined_empty (pieces bs) (some_pieces bs) ∙ ap (λ (x : List ℕ). dash ∷ greater_sign ∷ x) (joined_pieces bs)
    ∙ ap (λ (c : ℕ). dash ∷ c ∷ bs) (sym (eqb-true b greater_sign both.1))
    ∙ ap (λ (c : ℕ). c ∷ b ∷ bs) (sym (eqb-true a dash both.0)))
    (λ _. joined_onto a (pieces (b ∷ bs)) ∙ ap (λ (x : List ℕ). a ∷ x) (joined_pieces (b ∷ bs)))

-- ---- no piece has a `->`

abbrev pub NoArrows : List (List ℕ) → Type 0
NoArrows [] = Unit {0}
NoArrows (p ∷ ps) = (no_arrow p ≡ true) × NoArrows ps

-- the first piece is empty or begins with b
abbrev Begins : ℕ → List (List ℕ) → Type 0
Begins b [] = Unit {0}
Begins b ([] ∷ ps) = Unit {0}
Begins b ((c ∷ cs) ∷ ps) = c ≡ b

begins_onto : (a : ℕ) (ps : List (List ℕ)) → Begins a (onto_first a ps)
begins_onto a [] = refl
begins_onto a (p ∷ ps) = refl

begins : (b : ℕ) (bs : List ℕ) → Begins b (pieces (b ∷ bs))
unfolding pieces
begins b [] = refl
begins b (c ∷ cs) =
    cond_both (eqb b dash && eqb c greater_sign) ([] ∷ pieces cs) (onto_first b (pieces (c ∷ cs))) (Begins b) (λ _. tt)
    (λ _. begins_onto b (pieces (c ∷ cs)))

none_onto : (a b : ℕ) (ps : List (List ℕ)) → (eqb a dash && eqb b greater_sign) ≡ false → Begins b ps → NoArrows ps
    → NoArrows (onto_first a ps)
none_onto a b [] h begin none = (refl, tt)
none_onto a b ([] ∷ ps) h begin none = (refl, none.1)
none_onto a b ((c ∷ cs) ∷ ps) h begin none =
    (and_from (not (eqb a dash && eqb c greater_sign)) (no_arrow (c ∷ cs)) (rw begin (ap not h)) none.0, none.1)

pub none_in_pieces : (s : List ℕ) → NoArrows (pieces s)
unfolding pieces
none_in_pieces [] = (refl, tt)
none_in_pieces (a ∷ []) = (refl, tt)
none_in_pieces (a ∷ b ∷ bs) =
    cond_both (eqb a dash && eqb b greater_sign) ([] ∷ pieces bs) (onto_first a (pieces (b ∷ bs))) NoArrows
    (λ _. (refl, none_in_pieces bs)) (λ e. none_onto a b (pieces (b ∷ bs)) e (begins b bs) (none_in_pieces (b ∷ bs)))

-- ---- what was joined is cut again

cut_none : (s : List ℕ) → no_arrow s ≡ true → pieces s ≡ s ∷ []
unfolding pieces
cut_none [] h = refl
cut_none (a ∷ []) h = refl
cut_none (a ∷ b ∷ bs) h =
    let both = and_parts (not (eqb a dash && eqb b greater_sign)) (no_arrow (b ∷ bs)) h in
    rw (not-true (eqb a dash && eqb b greater_sign) both.0, cut_none (b ∷ bs) both.1) refl

cut_first : (xs ys : List ℕ) → no_arrow xs ≡ true → pieces (xs ++ dash ∷ greater_sign ∷ ys) ≡ xs ∷ pieces ys
unfolding pieces
cut_first [] ys h = refl
cut_first (a ∷ []) ys h = rw (and_right (eqb a dash) (eqb dash greater_sign) refl) refl
cut_first (a ∷ b ∷ xs) ys h =
    let both = and_parts (not (eqb a dash && eqb b greater_sign)) (no_arrow (b ∷ xs)) h in
    let later : pieces ((b ∷ xs) ++ dash ∷ greater_sign ∷ ys) ≡ (b ∷ xs) ∷ pieces ys = cut_first (b ∷ xs) ys both.1 in
    rw (not-true (eqb a dash && eqb b greater_sign) both.0, later) refl

pub pieces_joined : (ps : List (List ℕ)) → 0 < length ps → NoArrows ps → pieces (with_arrows ps) ≡ ps
pieces_joined [] some h = absurd (omega arith)
pieces_joined (p ∷ []) some h = cut_none p h.0
pieces_joined (p ∷ q ∷ ps) some h =
    cut_first p (with_arrows (q ∷ ps)) h.0 ∙ ap (λ (x : List (List ℕ)). p ∷ x)
    (pieces_joined (q ∷ ps) (omega arith) h.1)

-- ---- `->` in a part and in a whole

pub no_arrow_front : (xs ys : List ℕ) → no_arrow (xs ++ ys) ≡ true → no_arrow xs ≡ true
no_arrow_front [] ys h = refl
no_arrow_front (a ∷ []) ys h = refl
no_arrow_front (a ∷ b ∷ xs) ys h =
    let both = and_parts (not (eqb a dash && eqb b greater_sign)) (no_arrow (b ∷ (xs ++ ys))) h in
    and_from (not (eqb a dash && eqb b greater_sign)) (no_arrow (b ∷ xs)) both.0 (no_arrow_front (b ∷ xs) ys both.1)

pub no_arrow_back : (xs ys : List ℕ) → no_arrow (xs ++ ys) ≡ true → no_arrow ys ≡ true
no_arrow_back [] ys h = h
no_arrow_back (a ∷ xs) ys h = no_arrow_back xs ys (no_arrow_tail a (xs ++ ys) h)

no_arrow_onto : (a : ℕ) (s : List ℕ) → eqb a dash ≡ false → no_arrow s ≡ true → no_arrow (a ∷ s) ≡ true
no_arrow_onto a [] apart h = refl
no_arrow_onto a (b ∷ bs) apart h =
    and_from (not (eqb a dash && eqb b greater_sign)) (no_arrow (b ∷ bs)) (rw apart refl) h

-- none behind what has no `-`
pub no_arrow_after : (xs ys : List ℕ) → lacks dash xs ≡ true → no_arrow ys ≡ true → no_arrow (xs ++ ys) ≡ true
no_arrow_after [] ys absent h = h
no_arrow_after (a ∷ xs) ys absent h =
    let both = and_parts (not (eqb a dash)) (lacks dash xs) absent in
    no_arrow_onto a (xs ++ ys) (not-true (eqb a dash) both.0) (no_arrow_after xs ys both.1 h)
