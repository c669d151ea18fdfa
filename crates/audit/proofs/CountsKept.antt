-- Counts of terms, as keys are added one after the other.
use Rattle.std.proofs.Common.{◌≡◌, ℕ, ◌==◌, ◌&&◌, ◌+◌, ◌<◌, ◌≤◌, cond, Bool, true, false, List, [], ◌∷◌, ◌++◌, length, map, take, Option, Some, None, Ok, IsSome, refl, sym, ◌∙◌, ap, subst, arith, inl, inr, ⊎_elim, slice_get, get_or}
use Rattle.std.proofs.lemmas.Bool.{eqb-true, and_parts}
use Rattle.std.proofs.lemmas.Bool.Decides.{leb_tells, nat_tests}
use Rattle.std.proofs.lemmas.Slice.Eq.{bytes_eq-Decides}
use Rattle.std.proofs.lemmas.List.{length-map, length-take-le, map-append, take_more}
use Rattle.std.proofs.lemmas.Option.{slice_get_within}
use Rattle.std.proofs.lemmas.Map.Text.{is_eq-slice_cmp}
use Rattle.std.specs.Str.{bytes_eq}
use Rattle.std.specs.Cmp.{both_tied}
use Rattle.std.specs.Cmp.Lexicographic.{slice_cmp}
use Rattle.std.specs.Ordering.{nat_cmp, ordering_then, is_eq}
use Rattle.actions.specs.Value.{TermValue}
use Rattle.actions.specs.Canonical.{canonical}
use Rattle.actions.specs.Reading.{reading}
use Rattle.stamp_register.specs.declared.key.Stamp.{Stamp}
use Rattle.stamp_register.specs.Keys.{KeyValue, stamp_of, terms_in_text, terms_read, terms_set}
use Rattle.operations.specs.Operations.{Operation, Set, IsIn, count_of, count_in, count_under}
use Rattle.node_steps.specs.Settings.{new_key, operations_issued, settings_of}
use Rattle.operations.proofs.Members.{IsIn-append_left, IsIn-append_right, IsIn-append_cases}
use Rattle.node_steps.proofs.LoadSteps.{issued-more}
use Rattle.audit.specs.declared.counts.Counts.{Counts}
use Rattle.audit.specs.Counts.{count_kept, is_counted_at, IsCounted, AreCountsOf, AddsKeys}
use Rattle.audit.proofs.SumsKept.{same_number}

and_all : (p q r s : Bool) → (p && (q && (r && s))) ≡ (((p && q) && r) && s)
and_all true true r s = refl
and_all true false r s = refl
and_all false q r s = refl

-- two places compare equal where the names and all three numbers are
pub same_places : (n m : List ℕ) (a b c x y z : ℕ) → (bytes_eq n m && (a == x && (b == y && (c == z)))) ≡ is_eq
    (ordering_then (ordering_then (ordering_then (slice_cmp nat_cmp n m) (nat_cmp a x)) (nat_cmp b y)) (nat_cmp c z))
same_places n m a b c x y z =
    and_all (bytes_eq n m) (a == x) (b == y) (c == z)
    ∙ both_tied ((bytes_eq n m && (a == x)) && (b == y)) (c == z)
    (ordering_then (ordering_then (slice_cmp nat_cmp n m) (nat_cmp a x)) (nat_cmp b y)) (nat_cmp c z)
    (both_tied (bytes_eq n m && (a == x)) (b == y) (ordering_then (slice_cmp nat_cmp n m) (nat_cmp a x)) (nat_cmp b y)
    (both_tied (bytes_eq n m) (a == x) (slice_cmp nat_cmp n m) (nat_cmp a x) (sym (is_eq-slice_cmp n m))
    (same_number a x))
    (same_number b y))
    (same_number c z)

eqb-refl : (a : ℕ) → (a == a) ≡ true
eqb-refl a = grind (arith, nat_tests)

all_true : (p q r s : Bool) → p ≡ true → q ≡ true → r ≡ true → s ≡ true → (p && (q && (r && s))) ≡ true
all_true p q r s h k l m = ap (λ t. t && (q && (r && s))) h ∙ ap (λ t. t && (r && s)) k ∙ ap (λ t. t && s) l ∙ m

same_here : (name : List ℕ) (stamp : Stamp) (term : ℕ) → is_counted_at name stamp term name stamp term ≡ true
same_here name stamp term =
    all_true (bytes_eq name name) (stamp.clock == stamp.clock) (stamp.node == stamp.node) (term == term)
    ((bytes_eq-Decides name name).1 refl) (eqb-refl stamp.clock) (eqb-refl stamp.node) (eqb-refl term)

bytes_eq-true : (n m : List ℕ) → bytes_eq n m ≡ true → n ≡ m
bytes_eq-true n m = (bytes_eq-Decides n m).0

-- ---- the terms of one key

-- what is kept are the counted terms of the keys that ops set, and of one more key those below a number
pub record AreCountsUpto (counts : Counts) (ops : List Operation) (name : List ℕ) (key : KeyValue) (n : ℕ) :
    Type 0 where
  pub sound : (other : List ℕ) (stamp : Stamp) (term count : ℕ) → count_kept counts other stamp term ≡ Some count →
      IsCounted (Set name key ∷ ops) other stamp term count
  pub whole : (other : List ℕ) (stamp : Stamp) (term count : ℕ) → IsCounted ops other stamp term count →
      IsSome (count_kept counts other stamp term)
  pub upto : (term count : ℕ) → term < n → count_of key term ≡ Some count →
      IsSome (count_kept counts name (stamp_of key) term)

pub one_key_more : (name : List ℕ) (key : KeyValue) (ops : List Operation) (other : List ℕ) (stamp : Stamp)
    (term count : ℕ) → IsCounted ops other stamp term count → IsCounted (Set name key ∷ ops) other stamp term count
one_key_more name key ops other stamp term count c = record {
  key = c.key;
  set = inr c.set;
  stamped = c.stamped;
  counted = c.counted;
}

pub upto_none : (counts : Counts) (ops : List Operation) (name : List ℕ) (key : KeyValue) → AreCountsOf counts ops →
    AreCountsUpto counts ops name key 0
upto_none counts ops name key are = record {
  sound = λ other stamp term count h. one_key_more name key ops other stamp term count
      (are.sound other stamp term count h);
  whole = are.whole;
  upto = λ term count below h. absurd (omega (arith, below));
}

module _ (name : List ℕ) (key : KeyValue) (stamp : Stamp) (term count : ℕ) (old new : Counts)
    (stamped : stamp_of key ≡ stamp) (counted : count_of key term ≡ Some count)
    (put : (other : List ℕ) (at : Stamp) (k : ℕ) → count_kept new other at k ≡ cond
    (is_counted_at name stamp term other at k) (Some count) (count_kept old other at k)) where
  -- what was kept is still kept
  stays : (other : List ℕ) (at : Stamp) (k : ℕ) → IsSome (count_kept old other at k) →
      IsSome (count_kept new other at k)
  stays other at k h = by (is_counted_at name stamp term other at k) (put other at k)
    where
      by : (t : Bool) → count_kept new other at k ≡ cond t (Some count) (count_kept old other at k) →
          IsSome (count_kept new other at k)
      by true p = subst IsSome (sym p) refl
      by false p = subst IsSome (sym p) h

  here : IsSome (count_kept new name stamp term)
  here = by (is_counted_at name stamp term name stamp term) refl (put name stamp term)
    where
      by : (t : Bool) → is_counted_at name stamp term name stamp term ≡ t →
          count_kept new name stamp term ≡ cond t (Some count) (count_kept old name stamp term) →
          IsSome (count_kept new name stamp term)
      by true h p = subst IsSome (sym p) refl
      by false h p = absurd (let clash : true ≡ false = sym (same_here name stamp term) ∙ h in cc)

  pub upto_more : (ops : List Operation) → AreCountsUpto old ops name key term →
      AreCountsUpto new ops name key (term + 1)
  upto_more ops are = record {
    sound = λ other at k n h. sound other at k n (is_counted_at name stamp term other at k) refl
        (sym (put other at k) ∙ h);
    whole = λ other at k n h. stays other at k (are.whole other at k n h);
    upto = λ k n below h. upto k n below h;
  }
    where
      sound : (other : List ℕ) (at : Stamp) (k n : ℕ) (t : Bool) → is_counted_at name stamp term other at k ≡ t →
          cond t (Some count) (count_kept old other at k) ≡ Some n → IsCounted (Set name key ∷ ops) other at k n
      sound other at k n false p h = are.sound other at k n h
      sound other at k n true p h =
          let both = and_parts (bytes_eq name other) _ p in
          let first = and_parts (stamp.clock == at.clock) _ both.1 in
          let rest = and_parts (stamp.node == at.node) _ first.1 in
          let clock : stamp.clock ≡ at.clock = eqb-true stamp.clock at.clock first.0 in
          let node : stamp.node ≡ at.node = eqb-true stamp.node at.node rest.0 in
          let number : term ≡ k = eqb-true term k rest.1 in
          let stamps : stamp ≡ at = λ i. record { clock = clock i; node = node i } in
          record {
            key = key;
            set = inl (λ i. Set (sym (bytes_eq-true name other both.0) i) key);
            stamped = stamped ∙ stamps;
            counted = ap (λ m. count_of key m) (sym number) ∙ counted ∙ h;
          }

      upto : (k n : ℕ) → k < term + 1 → count_of key k ≡ Some n → IsSome (count_kept new name (stamp_of key) k)
      upto k n below h = elim (leb_tells term k) [
        | inl w ↦
            let is : k ≡ term = omega (arith, w.1, below) in
            subst (λ m. IsSome (count_kept new name (stamp_of key) m)) (sym is)
            (subst (λ s. IsSome (count_kept new name s term)) (sym stamped) here)
        | inr w ↦ stays name (stamp_of key) k (are.upto k n w.1 h)
      ]

-- a term that isn't counted, or isn't there
pub upto_same : (counts : Counts) (ops : List Operation) (name : List ℕ) (key : KeyValue) (term : ℕ) →
    count_of key term ≡ None → AreCountsUpto counts ops name key term → AreCountsUpto counts ops name key (term + 1)
upto_same counts ops name key term none are = record {
  sound = are.sound;
  whole = are.whole;
  upto = λ k n below h. elim (leb_tells term k) [
    | inl w ↦
        let is : k ≡ term = omega (arith, w.1, below) in
        absurd (let clash : ◌≡◌ {A = Option ℕ} None (Some n) = sym none ∙ ap (λ m. count_of key m) (sym is) ∙ h in cc)
    | inr w ↦ are.upto k n w.1 h
  ];
}

-- a key has no more counted terms than terms
counted_within : (key : KeyValue) (terms : List TermValue) (term count : ℕ) → key.body ≡ Some (canonical terms) →
    reading (canonical terms) ≡ Ok terms → count_of key term ≡ Some count → term < length terms
unfolding terms_in_text
counted_within key terms term count body reads h =
    let is : count_in (slice_get terms term) ≡ Some count = sym
    (ap (λ b. count_under (terms_set b) term) body ∙ ap (λ r. count_under (terms_read r) term) reads) ∙ h in
    at (slice_get terms term) refl is
  where
    at : (o : Option TermValue) → slice_get terms term ≡ o → count_in o ≡ Some count → term < length terms
    at None p q = absurd (let clash : ◌≡◌ {A = Option ℕ} None (Some count) = q in cc)
    at (Some t) p q = slice_get_within terms term t p

pub key_added : (counts : Counts) (ops : List Operation) (name : List ℕ) (key : KeyValue) (terms : List TermValue)
    (n : ℕ) → key.body ≡ Some (canonical terms) → reading (canonical terms) ≡ Ok terms → length terms ≤ n →
    AreCountsUpto counts ops name key n → AreCountsOf counts (Set name key ∷ ops)
key_added counts ops name key terms n body reads many are = record {
  sound = are.sound;
  whole = λ other stamp term count c. ⊎_elim (λ e. now other stamp term count c e)
      (λ h. are.whole other stamp term count (record {
        key = c.key;
        set = h;
        stamped = c.stamped;
        counted =
            c.counted;
      })) c.set;
}
  where
    now : (other : List ℕ) (stamp : Stamp) (term count : ℕ) (c :
        IsCounted (Set name key ∷ ops) other stamp term count) → Set other c.key ≡ Set name key →
        IsSome (count_kept counts other stamp term)
    now other stamp term count c e =
        let names : other ≡ name = cc in
        let keys : c.key ≡ key = cc in
        let counted : count_of key term ≡ Some count = subst (λ k. count_of k term ≡ Some count) keys c.counted in
        let within = counted_within key terms term count body reads counted in
        let some = are.upto term count (omega (arith, within, many)) counted in
        subst (λ m. IsSome (count_kept counts m stamp term)) (sym names)
        (subst (λ s. IsSome (count_kept counts name s term)) (ap stamp_of (sym keys) ∙ c.stamped) some)

-- ---- the keys of points

same_counts : (counts : Counts) (xs ys : List Operation) → ((op : Operation) → IsIn op xs → IsIn op ys) →
    ((op : Operation) → IsIn op ys → IsIn op xs) → AreCountsOf counts xs → AreCountsOf counts ys
same_counts counts xs ys to from are = record {
  sound = λ name stamp term count h. let c = are.sound name stamp term count h in
      record { key = c.key; set = to _ c.set; stamped = c.stamped; counted = c.counted };
  whole = λ name stamp term count c. are.whole name stamp term count
      (record { key = c.key; set = from _ c.set; stamped = c.stamped; counted = c.counted });
}

-- the newer ones may stand behind the others
pub adds_behind : (a b c : Counts) (xs ys : List Operation) → AddsKeys a b xs → AddsKeys b c ys →
    AddsKeys a c (xs ++ ys)
adds_behind a b c xs ys first second ops are =
    same_counts c (ys ++ (xs ++ ops)) ((xs ++ ys) ++ ops) to from (second (xs ++ ops) (first ops are))
  where
    to : (op : Operation) → IsIn op (ys ++ (xs ++ ops)) → IsIn op ((xs ++ ys) ++ ops)
    to op h = ⊎_elim
        (λ k. IsIn-append_left op (xs ++ ys) ops (IsIn-append_right op xs ys k))
        (λ k. ⊎_elim (λ l. IsIn-append_left op (xs ++ ys) ops (IsIn-append_left op xs ys l))
        (λ l. IsIn-append_right op (xs ++ ys) ops l) (IsIn-append_cases op xs ops k))
        (IsIn-append_cases op ys (xs ++ ops) h)

    from : (op : Operation) → IsIn op ((xs ++ ys) ++ ops) → IsIn op (ys ++ (xs ++ ops))
    from op h = ⊎_elim
        (λ k. ⊎_elim (λ l. IsIn-append_right op ys (xs ++ ops) (IsIn-append_left op xs ops l))
        (λ l. IsIn-append_left op ys (xs ++ ops) l) (IsIn-append_cases op xs ys k))
        (λ k. IsIn-append_right op ys (xs ++ ops) (IsIn-append_right op xs ops k))
        (IsIn-append_cases op (xs ++ ys) ops h)

pub adds_none : (a : Counts) → AddsKeys a a []
adds_none a ops are = are

-- the keys of the first points, and of one more
pub issued_one_more : (i clock : ℕ) (points : List (List ℕ × List TermValue)) (j : ℕ) (d : List ℕ × List TermValue) →
    j < length points →
    operations_issued i clock (settings_of (take (j + 1) points)) ≡ operations_issued i clock
    (settings_of (take j points)) ++ Set (get_or points j d).0
    (new_key i (clock + j) (Some (canonical (get_or points j d).1))) ∷ []
issued_one_more i clock points j d below =
    let f : List ℕ × List TermValue → List ℕ × Option (List ℕ) = λ point. (point.0, Some (canonical point.1)) in
    let many : length (map f (take j points)) ≡ j = length-map (take j points) f ∙
    length-take-le j points (omega (arith, below)) in
    ap (λ ps. operations_issued i clock (map f ps)) (take_more points j d below)
    ∙ ap (λ ss. operations_issued i clock ss) (map-append f (take j points) (get_or points j d ∷ []))
    ∙ issued-more i clock (clock + j) (map f (take j points)) (f (get_or points j d)) (ap (λ n. clock + n) (sym many))
