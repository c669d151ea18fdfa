-- Lists made of the marked cells that changed after a version: their members, and their order.
use Rattle.std.proofs.Common.{◌≡◌, ℕ, ◌<◌, ◌≤◌, Bool, true, false, cond, List, [], ◌∷◌, ◌++◌, length, map, inl, inr, ◌⊎◌, Option, Some, None, option_map, refl, sym, ap, subst, ◌∙◌, append_assoc, arith}
use Rattle.std.specs.Prelude.{nat_lt}
use Rattle.std.specs.List.{flat_map}
use Rattle.std.specs.List.Sorted.{IsStrictlySortedBy}
use Rattle.std.specs.Map.{lookup, keys_of}
use Rattle.std.specs.BTreeMap.{is_at}
use Rattle.std.specs.Cmp.{IsTotalOrder}
use Rattle.std.specs.Ordering.{nat_cmp}
use Rattle.std.specs.Cmp.Lexicographic.{slice_cmp}
use Rattle.std.specs.declared.cmp.Ordering.TheVariants.{Less, Equal}
use Rattle.std.proofs.lemmas.Bool.Decides.{nat_tests}
use Rattle.std.proofs.lemmas.List.Concat.{flat_map-cons}
use Rattle.std.proofs.lemmas.Cmp.{nat_list_cmp_total, on_total, tied_itself}
use Rattle.std.proofs.lemmas.Map.Lookups.{CmpEqualImpliesEq, exact_bytes}
use Rattle.operations.specs.Operations.{IsIn}
use Rattle.operations.specs.Counts.{place_of_counted, counted_cmp, is_hits}
use Rattle.operations.specs.declared.counted.Counted.{Counted}
use Rattle.operations.specs.declared.counted.Counted.TheVariants.{Hits, Execs, Shifts}
use Rattle.replica_state.proofs.Names.{IsAscending}
use Rattle.delta_exchange.specs.declared.marks.NameMarks.{NameMarks}
use Rattle.delta_exchange.specs.PassMarks.{pass_mark, last_mark}
use Rattle.delta_exchange.specs.Marks.{cell_change}
use Rattle.delta_exchange.specs.Since.{change_of, later}
use Rattle.message_format.proofs.Members.{flat_in, in_flat}
use Rattle.delta_exchange.proofs.SinceMaps.{found_in, value_at, flat_ascends}

-- ---- the order of what is counted

counted_total : IsTotalOrder counted_cmp
counted_total = on_total place_of_counted nat_list_cmp_total

pub by_place : (c d : Counted) → place_of_counted c ≡ place_of_counted d → c ≡ d
by_place (Hits i) (Hits j) e = cc
by_place (Execs t i) (Execs u j) e = cc
by_place (Shifts t i o) (Shifts u j p) e = cc
by_place (Hits i) (Execs u j) e = absurd cc
by_place (Hits i) (Shifts u j p) e = absurd cc
by_place (Execs t i) (Hits j) e = absurd cc
by_place (Execs t i) (Shifts u j p) e = absurd cc
by_place (Shifts t i o) (Hits j) e = absurd cc
by_place (Shifts t i o) (Execs u j) e = absurd cc

counted_exact : CmpEqualImpliesEq counted_cmp
counted_exact c d e = by_place c d (exact_bytes (place_of_counted c) (place_of_counted d) e)

-- ---- what changed after a version

-- a value that was made of another one
made_of : (f : ℕ → ℕ) (o : Option ℕ) (n : ℕ) → option_map f o ≡ Some n → (m : ℕ) × (o ≡ Some m) × (n ≡ f m)
made_of f None n e = absurd cc
made_of f (Some m) n e = (m, refl, cc)

module _ {C : Type 0} (f : Counted → List C) (w : NameMarks) (base : ℕ) where
  -- the mark of a cell, by what is beside it
  abbrev mark : Counted → ℕ → ℕ
  mark c n = last_mark (pass_mark w.passes c) n

  pub record IsLater (es : List (Counted × ℕ)) (d : C) : Type 0 where
    pub counted : Counted
    pub number : ℕ
    pub marked : option_map (mark counted) (lookup (is_at (counted_cmp counted)) es) ≡ Some number
    pub above : base < cell_change (is_hits counted) number w.key
    pub is : IsIn d (f counted)

  in_one : (e : Counted × ℕ) (d : C) → IsIn d (later w base f e) → (base < change_of w e) × IsIn d (f e.0)
  in_one e d h = by_test (nat_lt base (change_of w e)) refl h
    where
      by_test : (b : Bool) → nat_lt base (change_of w e) ≡ b → IsIn d (cond b (f e.0) []) →
          (base < change_of w e) × IsIn d (f e.0)
      by_test true t h = (grind (arith, nat_tests), h)
      by_test false t h = absurd h

  one_in : (e : Counted × ℕ) (d : C) → base < change_of w e → IsIn d (f e.0) → IsIn d (later w base f e)
  one_in e d lt h = by_test (nat_lt base (change_of w e)) refl
    where
      by_test : (b : Bool) → nat_lt base (change_of w e) ≡ b → IsIn d (cond b (f e.0) [])
      by_test true t = h
      by_test false t = absurd (grind (arith, nat_tests))

  pub later_member : (es : List (Counted × ℕ)) (d : C) → IsStrictlySortedBy counted_cmp (keys_of es) →
      IsIn d (flat_map (later w base f) es) → IsLater es d
  later_member es d sorted h =
      let r = in_flat (later w base f) es d h in
      let one = in_one r.0 d r.2 in
      record {
        counted = r.0.0;
        number = mark r.0.0 r.0.1;
        marked = ap (option_map (mark r.0.0)) (value_at counted_cmp counted_total counted_exact es r.0.0 r.0.1
            sorted r.1);
        above = one.0;
        is = one.1;
      }

  pub member_later : (es : List (Counted × ℕ)) (c : Counted) (n : ℕ) (d : C) →
      option_map (mark c) (lookup (is_at (counted_cmp c)) es) ≡ Some n → base < cell_change (is_hits c) n w.key →
      IsIn d (f c) → IsIn d (flat_map (later w base f) es)
  member_later es c n d e lt h =
      let r = made_of (mark c) (lookup (is_at (counted_cmp c)) es) n e in
      flat_in (later w base f) es (c, r.0) d (found_in counted_cmp counted_total counted_exact es c r.0 r.1)
      (one_in (c, r.0) d (subst (λ k. base < cell_change (is_hits c) k w.key) r.2 lt) h)

  -- one more cell that changed, taken from what is left
  pub one_more : (front all : List C) (e : Counted × ℕ) (rest : List (Counted × ℕ)) (d : C) → base < change_of w e →
      f e.0 ≡ d ∷ [] → front ++ flat_map (later w base f) (e ∷ rest) ≡ all →
      (front ++ d ∷ []) ++ flat_map (later w base f) rest ≡ all
  one_more front all e rest d lt is h =
      append_assoc front (d ∷ []) (flat_map (later w base f) rest) ∙ ap (λ ds. front ++ ds) (sym next) ∙ h
    where
      passes : (b : Bool) → nat_lt base (change_of w e) ≡ b → cond b (f e.0) [] ≡ f e.0
      passes true t = refl
      passes false t = absurd (grind (arith, nat_tests))

      next : flat_map (later w base f) (e ∷ rest) ≡ d ∷ flat_map (later w base f) rest
      next = flat_map-cons (later w base f) e rest ∙ ap (λ ds. ds ++ flat_map (later w base f) rest)
          (passes (nat_lt base (change_of w e)) refl ∙ is)

  -- a cell that tells nothing
  none_more : (front all : List C) (e : Counted × ℕ) (rest : List (Counted × ℕ)) → later w base f e ≡ [] →
      front ++ flat_map (later w base f) (e ∷ rest) ≡ all → front ++ flat_map (later w base f) rest ≡ all
  none_more front all e rest none h =
      ap (λ ds. front ++ ds)
      (sym (flat_map-cons (later w base f) e rest ∙ ap (λ ds. ds ++ flat_map (later w base f) rest) none)) ∙ h

  -- since it didn't change, or since it isn't of these
  pub earlier_more : (front all : List C) (e : Counted × ℕ) (rest : List (Counted × ℕ)) → change_of w e ≤ base →
      front ++ flat_map (later w base f) (e ∷ rest) ≡ all → front ++ flat_map (later w base f) rest ≡ all
  earlier_more front all e rest le = none_more front all e rest (passed (nat_lt base (change_of w e)) refl)
    where
      passed : (b : Bool) → nat_lt base (change_of w e) ≡ b → cond b (f e.0) [] ≡ []
      passed true t = absurd (grind (arith, nat_tests))
      passed false t = refl

  pub other_more : (front all : List C) (e : Counted × ℕ) (rest : List (Counted × ℕ)) → f e.0 ≡ [] →
      front ++ flat_map (later w base f) (e ∷ rest) ≡ all → front ++ flat_map (later w base f) rest ≡ all
  other_more front all e rest other = none_more front all e rest (passed (nat_lt base (change_of w e)))
    where
      passed : (b : Bool) → cond b (f e.0) [] ≡ []
      passed true = other
      passed false = refl

  one_ascends : (place : C → List ℕ) (e : Counted × ℕ) → IsAscending (map place (f e.0)) →
      IsAscending (map place (later w base f e))
  one_ascends place e h = by_test (nat_lt base (change_of w e))
    where
      by_test : (b : Bool) → IsAscending (map place (cond b (f e.0) []))
      by_test true = h
      by_test false = tt

  pub later_ascends : (place : C → List ℕ) → ((c : Counted) → IsAscending (map place (f c)))
      → ((c e : Counted) (x y : C) → counted_cmp c e ≡ Less → IsIn x (f c) → IsIn y (f e) →
      slice_cmp nat_cmp (place x) (place y) ≡ Less)
      → (es : List (Counted × ℕ)) → IsStrictlySortedBy counted_cmp (keys_of es) →
      IsAscending (map place (flat_map (later w base f) es))
  later_ascends place each across = flat_ascends counted_cmp (later w base f) place
      (λ e. one_ascends place e (each e.0))
      (λ e g x y lt h k. across e.0 g.0 x y lt (in_one e x h).1 (in_one g y k).1)

-- ---- a list in order that is part of another one is no longer

pub part_is_short : (xs ys : List (List ℕ)) → IsAscending xs → IsAscending ys → ((x : List ℕ) → IsIn x xs → IsIn x ys) →
    length xs ≤ length ys
part_is_short [] ys h k part = omega arith
part_is_short (x ∷ xs) [] h k part = absurd (part x (inl refl))
part_is_short (x ∷ xs) (y ∷ ys) h k part = by_place (part x (inl refl)) (part_is_short xs ys h.1 k.1)
    (part_is_short (x ∷ xs) ys h k.1)
  where
    -- what is above the first isn't it
    past : (b a : List ℕ) → slice_cmp nat_cmp b a ≡ Less → IsIn a (y ∷ ys) → b ≡ y → IsIn a ys
    past b a lt (inl s) e =
        let same : a ≡ b = s ∙ sym e in
        let tied = tied_itself nat_list_cmp_total b in
        let less : slice_cmp nat_cmp b b ≡ Less = subst (λ z. slice_cmp nat_cmp b z ≡ Less) same lt in
        absurd (let impossible : Equal ≡ Less = sym tied ∙ less in cc)
    past b a lt (inr i) e = i

    all : slice_cmp nat_cmp y x ≡ Less → IsIn x ys → (a : List ℕ) → IsIn a (x ∷ xs) → IsIn a ys
    all above i a (inl s) = subst (λ z. IsIn z ys) (sym s) i
    all above i a (inr j) = past y a (nat_list_cmp_total.trans y x a above (h.0 a j)) (part a (inr j)) refl

    by_place : (x ≡ y) ⊎ IsIn x ys → (((a : List ℕ) → IsIn a xs → IsIn a ys) → length xs ≤ length ys) →
        (((a : List ℕ) → IsIn a (x ∷ xs) → IsIn a ys) → length (x ∷ xs) ≤ length ys) → length (x ∷ xs) ≤ length (y ∷ ys)
    by_place (inl s) rest other =
        let upto = rest (λ a i. past x a (h.0 a i) (part a (inr i)) s) in
        omega (arith, upto)
    by_place (inr i) rest other =
        let upto = other (all (k.0 x i) i) in
        omega (arith, upto)
