-- Joins of numbers by place.
use Rattle.std.specs.Prelude.{◌≡◌, ◌⊎◌, ◌<◌, ◌≤◌, ◌+◌, ℕ, zero, suc, List, [], ◌∷◌, length, max, get_or, slice_index, slice_set}
use Rattle.std.proofs.Common.{ap, arith, inl, inr, refl, subst, sym, ◌∙◌, ⊎_elim}
use Rattle.std.proofs.Math.ListN.{length-set}
use Rattle.std.proofs.lemmas.Bool.{cases_eq, cases_lt}
use Rattle.std.proofs.lemmas.List.{get_or-set_same, get_or-set_other, get_or_past}
use Rattle.lattice_laws.specs.Order.{IsJoin}
use Rattle.lattice_laws.specs.Numbers.{AreNumbers, NoneGreater}
use Rattle.lattice_laws.proofs.Bounds.{HaveBounds}

-- the greater number at each place
abbrev pub greater_of : List ℕ → List ℕ → List ℕ
greater_of [] ys = ys
greater_of (x ∷ xs) [] = x ∷ xs
greater_of (x ∷ xs) (y ∷ ys) = max x y ∷ greater_of xs ys

pub greater_at : (xs ys : List ℕ) (place : ℕ) →
    slice_index (greater_of xs ys) place ≡ max (slice_index xs place) (slice_index ys place)
greater_at [] ys place = let it : slice_index ys place ≡ max 0 (slice_index ys place) = omega arith in it
greater_at (x ∷ xs) [] place =
    let it : slice_index (x ∷ xs) place ≡ max (slice_index (x ∷ xs) place) 0 = omega arith in it
greater_at (x ∷ xs) (y ∷ ys) zero = refl
greater_at (x ∷ xs) (y ∷ ys) (suc place) = greater_at xs ys place

greater_long : (xs ys : List ℕ) → length (greater_of xs ys) ≡ max (length xs) (length ys)
greater_long [] ys = let it : length ys ≡ max 0 (length ys) = omega arith in it
greater_long (x ∷ xs) [] = let it : length (x ∷ xs) ≡ max (length (x ∷ xs)) 0 = omega arith in it
greater_long (x ∷ xs) (y ∷ ys) = let rest = greater_long xs ys in omega arith

greater_numbers : (xs ys : List ℕ) → AreNumbers xs → AreNumbers ys → AreNumbers (greater_of xs ys)
greater_numbers xs ys a b = record {
  few = let long = greater_long xs ys in let c = a.few in let d = b.few in omega arith;
  small = λ place. let at = greater_at xs ys place in let c = a.small place in let d = b.small place in omega arith;
}

-- any two have numbers above both
pub numbers_bounds : HaveBounds AreNumbers NoneGreater
numbers_bounds xs ys a b = record {
  above = greater_of xs ys;
  is_admitted = greater_numbers xs ys a b;
  first = λ place. let at = greater_at xs ys place in omega arith;
  second = λ place. let at = greater_at xs ys place in omega arith;
}

-- a join has the greater number at each place
pub numbers_join : (x y j : List ℕ) → IsJoin AreNumbers NoneGreater x y j → (place : ℕ) →
    slice_index j place ≡ max (slice_index x place) (slice_index y place)
numbers_join x y j join place =
    let at = greater_at x y in
    let first = join.above_first place in
    let second = join.above_second place in
    let here = at place in
    let below = join.least (greater_of x y) (greater_numbers x y join.admitted_first join.admitted_second)
    (λ q. let there = at q in omega arith) (λ q. let there = at q in omega arith) place in
    omega arith

-- and what has it is a join
pub numbers_join_from : (x y j : List ℕ) → AreNumbers x → AreNumbers y → AreNumbers j →
    ((place : ℕ) → slice_index j place ≡ max (slice_index x place) (slice_index y place)) →
    IsJoin AreNumbers NoneGreater x y j
numbers_join_from x y j a b c greater = record {
  admitted_first = a;
  admitted_second = b;
  admitted_join = c;
  above_first = λ place. let here = greater place in omega arith;
  above_second = λ place. let here = greater place in omega arith;
  least = λ u d p q place. let here = greater place in let first = p place in let second = q place in omega arith;
}

-- it can be told whether all are 0
pub numbers_bottom : (xs : List ℕ) → NoneGreater xs [] ⊎ (NoneGreater xs [] → ⊥)
numbers_bottom [] = inl (λ place. omega arith)
numbers_bottom (x ∷ xs) = ⊎_elim
    (λ none. ⊎_elim (λ rest. inl (all none rest)) (λ not. inr (λ below. not (λ place. below (suc place))))
    (numbers_bottom xs))
    (λ some. inr (λ below. let here : x ≤ 0 = below 0 in some (omega arith)))
    (cases_eq x 0)
  where
    all : x ≡ 0 → NoneGreater xs [] → NoneGreater (x ∷ xs) []
    all none rest zero = let here : x ≤ 0 = omega arith in here
    all none rest (suc place) = rest place

-- ---- numbers that are raised place by place

-- those before a place are raised to at least the others, and those from it on are as they were
pub record RaisedBelow (old others new : List ℕ) (place : ℕ) : Type 0 where
  pub len : length new ≡ length old
  pub done : (q : ℕ) → q < place → slice_index new q ≡ max (slice_index old q) (slice_index others q)
  pub left : (q : ℕ) → place ≤ q → slice_index new q ≡ slice_index old q

pub raised_more : (old others new : List ℕ) (place number : ℕ) → place < length new →
    number ≡ max (slice_index new place) (slice_index others place) → RaisedBelow old others new place →
    RaisedBelow old others (slice_set new place number) (place + 1)
raised_more old others new place number inside is h = record {
  len = length-set new place number ∙ h.len;
  done = λ q low. ⊎_elim
      (λ same.
      let written : get_or (slice_set new place number) q 0 ≡ number =
      ap (λ j. get_or (slice_set new place number) j 0) same ∙ get_or-set_same new place number 0 inside in
      let here = h.left place (omega arith) in
      subst (λ j. get_or (slice_set new place number) q 0 ≡ max (get_or old j 0) (get_or others j 0)) (sym same)
      (omega (arith, written, is, here)))
      (λ ne. get_or-set_other new place q number 0 ne ∙ h.done q (omega (arith, ne, low)))
      (cases_eq q place);
  left = λ q high. get_or-set_other new place q number 0 (λ same. omega (arith, same, high)) ∙ h.left q (omega arith);
}

-- behind the last of the others nothing is to be raised
pub all_raised : (old others new : List ℕ) (place : ℕ) → place ≡ length others → RaisedBelow old others new place →
    (q : ℕ) → slice_index new q ≡ max (slice_index old q) (slice_index others q)
all_raised old others new place end h q = ⊎_elim
    (λ low. h.done q low)
    (λ high.
    let kept = h.left q high in
    let none : slice_index others q ≡ 0 = get_or_past others q 0 (omega (arith, end, high)) in
    omega (arith, kept, none))
    (cases_lt q place)
