-- Lists of elements that are read one after the other, each above the one before it.
use Rattle.std.proofs.Common.{◌≡◌, ℕ, zero, suc, true, List, [], ◌∷◌, ◌++◌, length, map, option_map, Option, Some, None, Result, Ok, refl, ap, ◌∙◌, append_assoc}
use Rattle.std.specs.List.{flat_map, AllByRecursion}
use Rattle.std.specs.List.Sorted.{IsStrictlySortedBy}
use Rattle.std.specs.declared.cmp.Ordering.{Ordering}
use Rattle.std.specs.declared.cmp.Ordering.TheVariants.{Less, Equal, Greater}
use Rattle.std.specs.Ordering.{nat_cmp, is_lt}
use Rattle.std.specs.Cmp.Lexicographic.{slice_cmp}
use Rattle.std.proofs.lemmas.Cmp.{nat_list_cmp_total}
use Rattle.std.proofs.lemmas.List.Concat.{flat_map-cons}
use Rattle.message_format.specs.declared.fault.WireFault.{WireFault}
use Rattle.message_format.specs.Spelling.{Ascend}
use Rattle.refusals.specs.Refusals.{◌>>=◌}
use Rattle.message_format.specs.Reading.{each_at, is_above}
use Rattle.refusals.proofs.StepLemmas.{bind_ok}
use Rattle.message_format.proofs.Steps.{at_ok}
use Rattle.message_format.proofs.Fields.{IsBytes, Takes, Takes-then}

-- each has it beside the one before it
abbrev pub Chain : {C : Type 0} → (Option C → C → Type 0) → Option C → List C → Type 0
Chain Follows last [] = Unit {0}
Chain Follows last (c ∷ cs) = Follows last c × Chain Follows (Some c) cs

module _ {C : Type 0} (one_at : Option C → List ℕ → Result (C × List ℕ) WireFault) (spell : C → List ℕ)
    (Follows : Option C → C → Type 0) where
  pub each_takes : ((last : Option C) (left : List ℕ) (c : C) (rest : List ℕ) → IsBytes left →
      one_at last left ≡ Ok (c, rest) → Takes left (spell c) rest × Follows last c)
      → (n : ℕ) (last : Option C) (left : List ℕ) (cs : List C) (rest : List ℕ) → IsBytes left →
      each_at one_at n last left ≡ Ok (cs, rest)
      → Takes left (flat_map spell cs) rest × (length cs ≡ n) × Chain Follows last cs
  unfolding each_at
  each_takes one zero last left cs rest fits e =
      let taken : Takes left [] left = record { parts = refl; rest_fits = fits } in
      at_ok (λ (p : List C × List ℕ). Takes left (flat_map spell p.0) p.1 × (length p.0 ≡ 0) × Chain Follows last p.0)
      ([], left) (cs, rest) e (taken, refl, tt)
  each_takes one (suc n) last left cs rest fits e =
      let a = bind_ok (one_at last left) (λ first. each_at one_at n (Some first.0) first.1 >>= λ others. Ok
      (first.0 ∷ others.0, others.1)) (cs, rest) e in
      let b = bind_ok (each_at one_at n (Some a.0.0) a.0.1) (λ others. Ok (a.0.0 ∷ others.0, others.1)) (cs, rest)
      a.2 in
      let first = one last left a.0.0 a.0.1 fits a.1 in
      let others = each_takes one n (Some a.0.0) a.0.1 b.0.0 b.0.1 first.0.rest_fits b.1 in
      let both = Takes-then left (spell a.0.0) a.0.1 (flat_map spell b.0.0) b.0.1 first.0 others.0 in
      at_ok (λ (p : List C × List ℕ). Takes left (flat_map spell p.0) p.1 × (length p.0 ≡ suc n) × Chain Follows last
      p.0) (a.0.0 ∷ b.0.0, b.0.1) (cs, rest) b.2 (rw flat_map-cons both, ap suc others.1, (first.1, others.2))

  pub each_again : ((last : Option C) (c : C) (rest : List ℕ) → Follows last c →
      one_at last (spell c ++ rest) ≡ Ok (c, rest))
      → (last : Option C) (cs : List C) (rest : List ℕ) → Chain Follows last cs →
      each_at one_at (length cs) last (flat_map spell cs ++ rest) ≡ Ok (cs, rest)
  unfolding each_at
  each_again one last [] rest h = refl
  each_again one last (c ∷ cs) rest h =
      let regrouped : flat_map spell (c ∷ cs) ++ rest ≡ spell c ++ (flat_map spell cs ++ rest) =
      ap (λ (x : List ℕ). x ++ rest) (flat_map-cons spell c cs) ∙ append_assoc (spell c) (flat_map spell cs) rest in
      ap (each_at one_at (suc (length cs)) last) regrouped ∙
      rw (one last c (flat_map spell cs ++ rest) h.0, each_again one (Some c) cs rest h.1) refl

less_from : (o : Ordering) → is_lt o ≡ true → o ≡ Less
less_from Less h = refl
less_from Equal h = absurd cc
less_from Greater h = absurd cc

all_below : (a b : List ℕ) (places : List (List ℕ)) → slice_cmp nat_cmp a b ≡ Less →
    AllByRecursion (λ p. slice_cmp nat_cmp b p ≡ Less) places →
    AllByRecursion (λ p. slice_cmp nat_cmp a p ≡ Less) places
all_below a b [] lt h = tt
all_below a b (p ∷ places) lt h = (nat_list_cmp_total.trans a b p lt h.0, all_below a b places lt h.1)

module _ {C : Type 0} (place : C → List ℕ) (Is : C → Type 0) where
  -- an element that is above the one before it
  abbrev pub Above : Option C → C → Type 0
  Above last c = Is c × (is_above (option_map place last) (place c) ≡ true)

  abbrev AllAbove : Option C → List C → Type 0
  AllAbove None cs = Unit {0}
  AllAbove (Some last) cs = AllByRecursion (λ p. slice_cmp nat_cmp (place last) p ≡ Less) (map place cs)

  all_above : (last : Option C) (c : C) (cs : List C) → is_above (option_map place last) (place c) ≡ true →
      AllAbove (Some c) cs → AllAbove last (c ∷ cs)
  all_above None c cs h below = tt
  all_above (Some last) c cs h below =
      let lt = less_from (slice_cmp nat_cmp (place last) (place c)) h in
      (lt, all_below (place last) (place c) (map place cs) lt below)

  ascends : (last : Option C) (cs : List C) → Chain Above last cs →
      AllByRecursion Is cs × Ascend (map place cs) × AllAbove last cs
  unfolding IsStrictlySortedBy
  ascends None [] h = (tt, tt, tt)
  ascends (Some last) [] h = (tt, tt, tt)
  ascends last (c ∷ cs) h =
      let rest = ascends (Some c) cs h.1 in
      ((h.0.0, rest.0), (rest.2, rest.1), all_above last c cs h.0.1 rest.2)

  pub ascend_from_chain : (cs : List C) → Chain Above None cs → AllByRecursion Is cs × Ascend (map place cs)
  ascend_from_chain cs h =
      let all = ascends None cs h in
      (all.0, all.1)

  is_first_above : (last : Option C) (c : C) (cs : List C) → AllAbove last (c ∷ cs) →
      is_above (option_map place last) (place c) ≡ true
  is_first_above None c cs h = refl
  is_first_above (Some last) c cs h = ap is_lt h.0

  chained : (last : Option C) (cs : List C) → AllByRecursion Is cs → Ascend (map place cs) → AllAbove last cs →
      Chain Above last cs
  unfolding IsStrictlySortedBy
  chained last [] all sorted above = tt
  chained last (c ∷ cs) all sorted above = (
    (all.0, is_first_above last c cs above),
    chained (Some c) cs all.1 sorted.1 sorted.0,
  )

  pub chain_from_ascend : (cs : List C) → AllByRecursion Is cs → Ascend (map place cs) → Chain Above None cs
  chain_from_ascend cs all sorted = chained None cs all sorted tt

-- ---- one more

pub all_and_one : {A : Type 0} (Is : A → Type 0) (xs : List A) (x : A) → AllByRecursion Is xs → Is x →
    AllByRecursion Is (xs ++ x ∷ [])
all_and_one Is [] x all one = (one, tt)
all_and_one Is (y ∷ xs) x all one = (all.0, all_and_one Is xs x all.1 one)
