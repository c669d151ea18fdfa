-- What two plain replicas know together, point by point, and which of two knows more.
use Rattle.std.proofs.Common.{◌≡◌, ℕ, ◌≤◌, max, Bool, true, false, cond, List, [], ◌∷◌, ◌⊎◌, inl, inr, refl, sym, ◌∙◌, ap, subst, arith, ⊎_elim, Option, Some, None}
use Rattle.std.proofs.lemmas.Bool.{true≢false}
use Rattle.std.proofs.lemmas.Cmp.{nat_list_cmp_total}
use Rattle.std.proofs.lemmas.Map.Keys.{sorted_tail, IsDistinct-from_sorted}
use Rattle.std.proofs.lemmas.Map.Text.{is_eq-slice_cmp}
use Rattle.std.specs.List.Sorted.{IsStrictlySortedBy}
use Rattle.std.specs.Map.{keys_of}
use Rattle.std.specs.Ordering.{nat_cmp}
use Rattle.std.specs.Str.{bytes_eq}
use Rattle.std.specs.Cmp.Lexicographic.{slice_cmp}
use Rattle.lattice_laws.proofs.Turns.{none_after}
use Rattle.stamp_register.specs.Keys.{KeyValue}
use Rattle.operations.specs.declared.counted.Counted.{Counted}
use Rattle.operations.specs.declared.counted.Counted.TheVariants as kinds
use Rattle.op_set.specs.declared.point.Point.{Point}
use Rattle.replica_state.specs.States.{State, with_name}
use Rattle.replica_state.specs.Folds.{fold, greater}
use Rattle.replica_state.specs.StateOrder.{IsKeyBelow, IsBelow}
use Rattle.replica_state.specs.Points.{Held}
use Rattle.op_set.specs.Counts.{held_of}
use Rattle.replica_state.specs.Unions.{with_names, key_order, no_key_order, number_both, numbers_both, union_of, both_held, IsHeldBelow}
use Rattle.replica_state.proofs.SetJoins.{with_names-cases, with_names-new, with_names-ascending, sorted_ascends}
use Rattle.op_set.specs.Shown as sets
use Rattle.op_set.specs.Shown.{shown, point_at, key_at}
use Rattle.replica_state.specs.Cells.{held_at, with_held}
use Rattle.replica_state.proofs.Orders.{bytes_eq-refl, bytes_eq-true}
use Rattle.replica_state.proofs.Names.{IsAscending, same_ascending}

-- ---- the names of two states

-- names put in their places one after the other are as they were
names_anew : (ns : List (List ℕ)) → IsAscending ns → with_names ns [] ≡ ns
names_anew ns h = same_ascending (with_names ns []) ns (with_names-ascending ns [] tt) h
    (λ m k. ⊎_elim (λ j. j) (λ j. absurd j) (with_names-cases ns [] m k))
    (λ m k. with_names-new ns [] m k)

-- ---- unions with nothing

greater-none : (k : Option KeyValue) → greater k None ≡ k
greater-none None = refl
greater-none (Some a) = refl

both-nothing : (k : Option KeyValue) (m : ℕ) → number_both (no_key_order k) m 0 ≡ m
both-nothing None m = omega arith
both-nothing (Some a) m = refl

nothing-both : (k : Option KeyValue) (n : ℕ) → number_both (key_order k None) 0 n ≡ n
nothing-both None n = omega arith
nothing-both (Some a) n = refl

pub unites-none : (v : State) → union_of v (shown []) ≡ v
unfolding union_of shown
unites-none v = λ i. record {
  names = v.names;
  key = λ q. greater-none (v.key q) i;
  hits = λ q j. zero_more (v.hits q j) i;
  execs = λ q t j. both-nothing (v.key q) (v.execs q t j) i;
  shifts = λ q t j l. both-nothing (v.key q) (v.shifts q t j l) i;
}
  where
    zero_more : (n : ℕ) → max n 0 ≡ n
    zero_more n = omega arith

pub none-unites : (v : State) → IsAscending v.names → union_of (fold []) v ≡ v
unfolding union_of fold
none-unites v h = λ i. record {
  names = names_anew v.names h i;
  key = v.key;
  hits = λ q j. more_zero (v.hits q j) i;
  execs = λ q t j. nothing-both (v.key q) (v.execs q t j) i;
  shifts = λ q t j l. nothing-both (v.key q) (v.shifts q t j l) i;
}
  where
    more_zero : (n : ℕ) → max 0 n ≡ n
    more_zero n = omega arith

-- ---- one point more

-- what is held of a name
abbrev pub seen : Option Point → Held
seen o = record { key = key_at o; number = sets.number_at o }

-- one or another
abbrev chosen : Bool → Held → Held → Held
chosen t h g = record { key = cond t h.key g.key; number = λ c. cond t (h.number c) (g.number c) }

both-unseen : (h : Held) → both_held h (seen None) ≡ h
unfolding both_held
both-unseen h = λ i. record { key = greater-none h.key i; number = λ c. numbers c i }
  where
    numbers : (c : Counted) → numbers_both (no_key_order h.key) h.number (λ d. 0) c ≡ h.number c
    numbers (kinds.Hits j) = omega arith
    numbers (kinds.Execs t j) = both-nothing h.key (h.number (kinds.Execs t j))
    numbers (kinds.Shifts t j l) = both-nothing h.key (h.number (kinds.Shifts t j l))

-- names are equal either way round
bytes_eq-flip : (a b : List ℕ) → bytes_eq a b ≡ bytes_eq b a
bytes_eq-flip a b = both (bytes_eq a b) (bytes_eq b a) refl refl
  where
    both : (s t : Bool) → bytes_eq a b ≡ s → bytes_eq b a ≡ t → s ≡ t
    both true true e f = refl
    both false false e f = refl
    both true false e f = absurd (true≢false (sym (subst (λ x. bytes_eq x a ≡ true) (bytes_eq-true a b e)
        (bytes_eq-refl a)) ∙ f))
    both false true e f = absurd (true≢false (sym (subst (λ x. bytes_eq x b ≡ true) (bytes_eq-true b a f)
        (bytes_eq-refl b)) ∙ e))

module _ (n : List ℕ) (p : Point) (rest : List (List ℕ × Point))
    (sorted : IsStrictlySortedBy (slice_cmp nat_cmp) (keys_of ((n, p) ∷ rest))) where
  -- a name is that of the first point, of which no other follows, or it isn't
  first_or_later : (q : List ℕ) (P : Bool → Option Point → Type 0) →
      (n ≡ q → point_at rest q ≡ None → P true (point_at rest q)) → P false (point_at rest q) →
      P (bytes_eq n q) (point_at rest q)
  first_or_later q P here there = by_test (bytes_eq n q) refl
    where
      by_test : (t : Bool) → bytes_eq n q ≡ t → P t (point_at rest q)
      by_test true e = here (bytes_eq-true n q e) (none_after nat_list_cmp_total (n, p) rest q
          (IsDistinct-from_sorted (slice_cmp nat_cmp) (keys_of ((n, p) ∷ rest)) sorted)
          (is_eq-slice_cmp q n ∙ bytes_eq-flip q n ∙ e))
      by_test false e = there

  -- what is found at a name
  found : (q : List ℕ) → point_at ((n, p) ∷ rest) q ≡ cond (bytes_eq n q) (Some p) (point_at rest q)
  found q = ap (λ t. cond t (Some p) (point_at rest q)) (is_eq-slice_cmp q n ∙ bytes_eq-flip q n)

  turn : (v : State) (q : List ℕ) → both_held (held_at v q) (seen (point_at ((n, p) ∷ rest) q)) ≡ both_held
      (chosen (bytes_eq n q) (both_held (held_at v n) (seen (Some p))) (held_at v q)) (seen (point_at rest q))
  turn v q = ap (λ (o : Option Point). both_held (held_at v q) (seen o)) (found q) ∙
      first_or_later q (λ t o. both_held (held_at v q) (seen (cond t (Some p) o)) ≡ both_held
      (chosen t (both_held (held_at v n) (seen (Some p))) (held_at v q)) (seen o))
      (λ same none. ap (λ (m : List ℕ). both_held (held_at v m) (seen (Some p))) (sym same) ∙
      sym (both-unseen (both_held (held_at v n) (seen (Some p)))) ∙
      ap (λ (o : Option Point). both_held (both_held (held_at v n) (seen (Some p))) (seen o)) (sym none))
      refl

  pub unites-point : (v : State) → union_of v (shown ((n, p) ∷ rest)) ≡ union_of
      (with_held n (both_held (held_at v n) (held_of p)) v) (shown rest)
  unfolding union_of shown with_held both_held held_of
  unites-point v = λ i. record {
    names = with_names (keys_of rest) (with_name n v.names);
    key = λ q. (turn v q i).key;
    hits = λ q j. (turn v q i).number (kinds.Hits j);
    execs = λ q t j. (turn v q i).number (kinds.Execs t j);
    shifts = λ q t j l. (turn v q i).number (kinds.Shifts t j l);
  }

-- ---- copies and unions of plain replicas

pub copied_state : (set copy : List (List ℕ × Point)) (v : State) →
    IsStrictlySortedBy (slice_cmp nat_cmp) (keys_of set) → shown copy ≡ union_of v (shown set) → v ≡ fold [] →
    shown copy ≡ shown set
unfolding shown
copied_state set copy v sorted e empty = e ∙ ap (λ (s : State). union_of s (shown set)) empty ∙
    none-unites (shown set) (sorted_ascends (keys_of set) sorted)

-- ---- which of two knows more

-- a point that is still to come is the one of its name, and of other names no more is known
abbrev pub StillOrBelow : List (List ℕ × Point) → State → List ℕ → Option Point → Type 0
StillOrBelow all w q None = IsHeldBelow (seen (point_at all q)) (held_at w q)
StillOrBelow all w q (Some p) = point_at all q ≡ Some p

-- at each name, while some points are still to come
pub record BelowBefore (all rest : List (List ℕ × Point)) (w : State) : Type 0 where
  pub sorted : IsStrictlySortedBy (slice_cmp nat_cmp) (keys_of rest)
  pub each : (q : List ℕ) → StillOrBelow all w q (point_at rest q)

unseen-below : (g : Held) → IsHeldBelow (seen None) g
unseen-below g = record { hits = λ node. omega arith; cells = by_key g.key refl }
  where
    by_key : (k : Option KeyValue) → g.key ≡ k → IsKeyBelow None g.key ⊎
        ((None ≡ g.key) × ((term node : ℕ) → 0 ≤ g.number (kinds.Execs term node)) ×
        ((term from to : ℕ) → 0 ≤ g.number (kinds.Shifts term from to)))
    by_key None e = inr (sym e, λ term node. omega arith, λ term from to. omega arith)
    by_key (Some key) e = inl (subst (IsKeyBelow None) (sym e) tt)

pub below-init : (all : List (List ℕ × Point)) (w : State) → IsStrictlySortedBy (slice_cmp nat_cmp) (keys_of all) →
    BelowBefore all all w
below-init all w sorted = record { sorted = sorted; each = λ q. to_come q (point_at all q) refl }
  where
    to_come : (q : List ℕ) (o : Option Point) → point_at all q ≡ o → StillOrBelow all w q o
    to_come q None e = subst (λ (o : Option Point). IsHeldBelow (seen o) (held_at w q)) (sym e)
        (unseen-below (held_at w q))
    to_come q (Some p) e = e

pub below-step : (all rest : List (List ℕ × Point)) (w : State) (n : List ℕ) (p : Point) →
    BelowBefore all ((n, p) ∷ rest) w → IsHeldBelow (held_of p) (held_at w n) → BelowBefore all rest w
unfolding held_of
below-step all rest w n p before below = record {
  sorted = sorted_tail (slice_cmp nat_cmp) n (keys_of rest) before.sorted;
  each = λ q. first_or_later n p rest before.sorted q (λ t o. StillOrBelow all w q (cond t (Some p) o) →
      StillOrBelow all w q o)
      (λ same none h. subst (StillOrBelow all w q) (sym none)
      (subst (λ (o : Option Point). IsHeldBelow (seen o) (held_at w q)) (sym h)
      (subst (λ (m : List ℕ). IsHeldBelow (seen (Some p)) (held_at w m)) same below)))
      (λ h. h)
      (subst (StillOrBelow all w q) (found n p rest before.sorted q) (before.each q));
}

pub below-end : (all : List (List ℕ × Point)) (w : State) → BelowBefore all [] w → IsBelow (shown all) w
unfolding shown
below-end all w before q = record { hits = λ node. (before.each q).hits node; cells = (before.each q).cells }

pub below-fails : (all rest : List (List ℕ × Point)) (w : State) (n : List ℕ) (p : Point) →
    BelowBefore all ((n, p) ∷ rest) w → (IsHeldBelow (held_of p) (held_at w n) → ⊥) → IsBelow (shown all) w → ⊥
unfolding shown held_of
below-fails all rest w n p before above below =
    let here : point_at all n ≡ Some p = subst (StillOrBelow all w n)
    (found n p rest before.sorted n ∙ ap (λ t. cond t (Some p) (point_at rest n)) (bytes_eq-refl n))
    (before.each n) in
    let known : IsHeldBelow (seen (point_at all n)) (held_at w n) =
    record { hits = λ node. (below n).hits node; cells = (below n).cells } in
    above (subst (λ (o : Option Point). IsHeldBelow (seen o) (held_at w n)) here known)
