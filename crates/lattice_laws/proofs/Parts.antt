-- A join of maps is the join at each key, and one of pairs that of each part.
use Rattle.std.specs.Prelude.{◌≡◌, ◌≢◌, ◌⊎◌, Bool, true, false, cond, Option, Some, None, IsSome, List, [], ◌∷◌, unwrap_or}
use Rattle.std.specs.declared.cmp.Ordering.{Ordering}
use Rattle.std.specs.declared.cmp.Ordering.TheVariants.{Less, Equal, Greater}
use Rattle.std.specs.Ordering.{is_eq, eq_by_cmp, ordering_reverse}
use Rattle.std.specs.Cmp.{IsTotalOrder}
use Rattle.std.specs.BTreeMap.{is_at}
use Rattle.std.specs.Map.{keys_of, remove_entry, set_value}
use Rattle.std.specs.List.{AllByRecursion}
use Rattle.std.specs.List.Sorted.{IsStrictlySortedBy}
use Rattle.std.proofs.Common.{ap, refl, subst, sym, inl, inr, ◌∙◌, ⊎_elim}
use Rattle.std.proofs.lemmas.Cmp.{tied_back, tied_itself, eq_by_cmp_equiv}
use Rattle.std.proofs.lemmas.Map.{keys-set_value, lookup-remove_entry, lookup-set_value}
use Rattle.std.proofs.lemmas.Map.Keys.{IsDistinct-from_sorted}
use Rattle.lattice_laws.specs.Order.{IsJoin, IsJoinOrder, Same}
use Rattle.lattice_laws.specs.Map.{IsMap, MapOrder, MayBeStored, admitted_at, stored_at, value_at}
use Rattle.lattice_laws.specs.Pair.{AreBoth, PairOrder, pair_of}
use Rattle.lattice_laws.specs.declared.pair.PairOf.{PairOf}
use Rattle.lattice_laws.specs.Lex.{ByKey, HoldsOnly, LexOrder, lex_order}
use Rattle.lattice_laws.proofs.Entries.{All-remove_entry, All-set_value}
use Rattle.lattice_laws.proofs.Turns.{is_eq-true, stored_at_equal}
use Rattle.lattice_laws.proofs.LexJoins.{lex_equal, lex_greater, lex_less}

module _ {K J : Type 0} (cmp : K → K → Ordering) (test : K → Bool) where
  -- what holds of each key holds without an entry
  keys-remove_entry : (P : K → Type 0) (m : List (K × J)) → AllByRecursion P (keys_of m) →
      AllByRecursion P (keys_of (remove_entry test m))
  keys-remove_entry P [] h = tt
  keys-remove_entry P (e ∷ m) h = by_test (test e.0) (keys-remove_entry P m h.1)
    where
      by_test : (t : Bool) → AllByRecursion P (keys_of (remove_entry test m)) →
          AllByRecursion P (keys_of (cond t m (e ∷ remove_entry test m)))
      by_test true rest = h.1
      by_test false rest = (h.0, rest)

  -- and the keys still rise
  sorted-remove_entry : (m : List (K × J)) → IsStrictlySortedBy cmp (keys_of m) →
      IsStrictlySortedBy cmp (keys_of (remove_entry test m))
  unfolding IsStrictlySortedBy
  sorted-remove_entry [] h = tt
  sorted-remove_entry (e ∷ m) h = by_test (test e.0) (keys-remove_entry (λ y. cmp e.0 y ≡ Less) m h.0)
      (sorted-remove_entry m h.1)
    where
      by_test : (t : Bool) → AllByRecursion (λ y. cmp e.0 y ≡ Less) (keys_of (remove_entry test m))
          → IsStrictlySortedBy cmp (keys_of (remove_entry test m))
          → IsStrictlySortedBy cmp (keys_of (cond t m (e ∷ remove_entry test m)))
      by_test true above rest = h.1
      by_test false above rest = (above, rest)

module _ {K J : Type 0} {cmp : K → K → Ordering} (total : IsTotalOrder cmp) {admitted : J → Type 0}
    {order : J → J → Type 0} {bottom : J} (laws : IsJoinOrder admitted order bottom) where
  -- the test for a key is that of each key equal to it
  one_key : (k x y : K) → is_at (cmp k) x ≡ true → is_at (cmp k) y ≡ eq_by_cmp cmp x y
  one_key k x y here = ap is_eq (total.congr k x y (is_eq-true (cmp k x) here))

  -- a map that differs from m at the key alone, where it has the value
  record Edited (m : List (K × J)) (k : K) (value : J) : Type 0 where
    edit : List (K × J)
    is_map : IsMap cmp admitted order bottom edit
    this : value_at cmp bottom edit k ≡ value
    others : (q : K) → is_at (cmp k) q ≡ false → value_at cmp bottom edit q ≡ value_at cmp bottom m q

  -- without the key's entry it has the bottom
  without : (m : List (K × J)) (k : K) → IsMap cmp admitted order bottom m → Edited m k bottom
  without m k h =
      let found : (q : K) → stored_at cmp (remove_entry (is_at (cmp k)) m) q
      ≡ cond (is_at (cmp k) q) None (stored_at cmp m q) =
      λ q. lookup-remove_entry (eq_by_cmp_equiv total) (is_at (cmp k)) (one_key k) q m
      (IsDistinct-from_sorted cmp (keys_of m) h.ordered) in
      record {
        edit = remove_entry (is_at (cmp k)) m;
        is_map =
            record {
              ordered = sorted-remove_entry cmp (is_at (cmp k)) m h.ordered;
              stored = All-remove_entry (MayBeStored cmp admitted order bottom) (is_at (cmp k)) m h.stored;
            };
        this = ap (λ o. unwrap_or o bottom) (found k ∙ ap (λ (t : Bool). cond t None (stored_at cmp m k))
            (ap is_eq (tied_itself total k)));
        others = λ q apart. ap (λ o. unwrap_or o bottom) (found q ∙
            ap (λ (t : Bool). cond t None (stored_at cmp m q)) apart);
      }

  -- an entry that is there may be written over
  written : (m : List (K × J)) (k : K) (value : J) → IsMap cmp admitted order bottom m → IsSome (stored_at cmp m k)
      → MayBeStored cmp admitted order bottom value → Edited m k value
  written m k value h there stored =
      let found : (q : K) → stored_at cmp (set_value (is_at (cmp k)) m value) q
      ≡ cond (is_at (cmp k) q) (Some value) (stored_at cmp m q) =
      λ q. lookup-set_value (eq_by_cmp_equiv total) (is_at (cmp k)) (one_key k) q value m there in
      record {
        edit = set_value (is_at (cmp k)) m value;
        is_map =
            record {
              ordered = subst (IsStrictlySortedBy cmp) (sym (keys-set_value (is_at (cmp k)) m value)) h.ordered;
              stored = All-set_value (MayBeStored cmp admitted order bottom) (is_at (cmp k)) m value h.stored stored;
            };
        this = ap (λ o. unwrap_or o bottom) (found k ∙ ap (λ (t : Bool). cond t (Some value) (stored_at cmp m k))
            (ap is_eq (tied_itself total k)));
        others = λ q apart. ap (λ o. unwrap_or o bottom) (found q ∙
            ap (λ (t : Bool). cond t (Some value) (stored_at cmp m q)) apart);
      }

  -- what is below j everywhere is below an edit of it, where it is below the value that is put
  below_edit : (x j : List (K × J)) (k : K) (value : J) (e : Edited j k value) → MapOrder cmp order bottom x j
      → order (value_at cmp bottom x k) value → MapOrder cmp order bottom x e.edit
  below_edit x j k value e above here q = by_test (is_at (cmp k) q) refl
    where
      same : (m : List (K × J)) → is_at (cmp k) q ≡ true → value_at cmp bottom m k ≡ value_at cmp bottom m q
      same m at = ap (λ (o : Option J). unwrap_or o bottom) (stored_at_equal total m k q (is_eq-true (cmp k q) at))

      by_test : (t : Bool) → is_at (cmp k) q ≡ t → order (value_at cmp bottom x q) (value_at cmp bottom e.edit q)
      by_test true at =
          subst (λ (v : J). order v (value_at cmp bottom e.edit q)) (same x at)
          (subst (λ (v : J). order (value_at cmp bottom x k) v) (sym e.this ∙ same e.edit at) here)
      by_test false at = subst (λ (v : J). order (value_at cmp bottom x q) v) (sym (e.others q at)) (above q)

  -- so a join is below each value that both are below
  below_value : (x y j : List (K × J)) (k : K) (value : J) (e : Edited j k value)
      → IsJoin (IsMap cmp admitted order bottom) (MapOrder cmp order bottom) x y j
      → order (value_at cmp bottom x k) value → order (value_at cmp bottom y k) value
      → order (value_at cmp bottom j k) value
  below_value x y j k value e join first second =
      subst (λ (v : J). order (value_at cmp bottom j k) v) e.this
      (join.least e.edit e.is_map (below_edit x j k value e join.above_first first)
      (below_edit y j k value e join.above_second second) k)

  -- a join of maps is the join at each key, if it can be told whether a value is the bottom
  pub join_at : ((v : J) → admitted v → order v bottom ⊎ (order v bottom → ⊥)) → (x y j : List (K × J))
      → IsJoin (IsMap cmp admitted order bottom) (MapOrder cmp order bottom) x y j → (k : K)
      → IsJoin admitted order (value_at cmp bottom x k) (value_at cmp bottom y k) (value_at cmp bottom j k)
  join_at is_bottom x y j join k =
      let first = admitted_at cmp admitted order bottom laws x join.admitted_first k in
      let second = admitted_at cmp admitted order bottom laws y join.admitted_second k in
      let joined = admitted_at cmp admitted order bottom laws j join.admitted_join k in
      record {
        admitted_first = first;
        admitted_second = second;
        admitted_join = joined;
        above_first = join.above_first k;
        above_second = join.above_second k;
        least = λ u a l m. ⊎_elim
            (λ low.
            let below =
            below_value x y j k bottom (without j k join.admitted_join) join
            (laws.transitive _ u bottom first a laws.bottom_admitted l low)
            (laws.transitive _ u bottom second a laws.bottom_admitted m low) in
            laws.transitive _ bottom u joined laws.bottom_admitted a below (laws.bottom_least u a))
            (λ high. by_entry u a l m high (stored_at cmp j k) refl)
            (is_bottom u a);
      }
    where
      by_entry : (u : J) → admitted u → order (value_at cmp bottom x k) u → order (value_at cmp bottom y k) u
          → (order u bottom → ⊥) → (o : Option J) → stored_at cmp j k ≡ o → order (value_at cmp bottom j k) u
      by_entry u a l m high None found = subst (λ (o : Option J). order (unwrap_or o bottom) u) (sym found)
          (laws.bottom_least u a)
      by_entry u a l m high (Some v) found =
          below_value x y j k u (written j k u join.admitted_join (subst (λ (o : Option J). IsSome o) (sym found) refl)
          (a, high)) join l m

  -- it can be told of a map too, for only the empty one is the bottom
  pub is_empty : (m : List (K × J)) → IsMap cmp admitted order bottom m →
      MapOrder cmp order bottom m [] ⊎ (MapOrder cmp order bottom m [] → ⊥)
  is_empty [] h = inl (λ k. laws.reflexive bottom laws.bottom_admitted)
  is_empty (e ∷ m) h =
      inr
      (λ below. h.stored.0.1 (subst (λ (t : Bool). order (unwrap_or (cond t (Some e.1) (stored_at cmp m e.0)) bottom)
      bottom) (ap is_eq (tied_itself total e.0)) (below e.0)))

module _ {A B : Type 0} (admitted_a : A → Type 0) (order_a : A → A → Type 0) (admitted_b : B → Type 0)
    (order_b : B → B → Type 0) where
  -- a join of pairs is that of the first parts
  pub join_first : (x y j : PairOf A B) → IsJoin (AreBoth admitted_a admitted_b) (PairOrder order_a order_b) x y j
      → IsJoin admitted_a order_a x.first y.first j.first
  join_first x y j join = record {
    admitted_first = join.admitted_first.0;
    admitted_second = join.admitted_second.0;
    admitted_join = join.admitted_join.0;
    above_first = join.above_first.0;
    above_second = join.above_second.0;
    least = λ u a l m. (join.least (pair_of u j.second) (a, join.admitted_join.1) (l, join.above_first.1)
        (m, join.above_second.1)).0;
  }

  -- and that of the second ones
  pub join_second : (x y j : PairOf A B) → IsJoin (AreBoth admitted_a admitted_b) (PairOrder order_a order_b) x y j
      → IsJoin admitted_b order_b x.second y.second j.second
  join_second x y j join = record {
    admitted_first = join.admitted_first.1;
    admitted_second = join.admitted_second.1;
    admitted_join = join.admitted_join.1;
    above_first = join.above_first.1;
    above_second = join.above_second.1;
    least = λ u a l m. (join.least (pair_of j.first u) (join.admitted_join.0, a) (join.above_first.0, l)
        (join.above_second.0, m)).1;
  }

module _ {S J : Type 0} {cmp : S → S → Ordering} (total : IsTotalOrder cmp) (admitted : J → Type 0)
    (order : J → J → Type 0) where
  -- under equal keys a join is that of the values, if some value is above both: where none is, it
  -- may be under a greater key
  pub lex_join_equal : (p q r : S × J) → cmp p.0 q.0 ≡ Equal → (u : J) → admitted u → order p.1 u → order q.1 u
      → IsJoin (HoldsOnly admitted) (LexOrder cmp order) (Some p) (Some q) (Some r)
      → (cmp r.0 p.0 ≡ Equal) × IsJoin admitted order p.1 q.1 r.1
  lex_join_equal p q r e u a l m join = by_answers (cmp p.0 r.0) refl join.above_first
      (not_less (cmp r.0 p.0) refl below_top)
    where
      second_below : (v : J) → order q.1 v → LexOrder cmp order (Some q) (Some (p.0, v))
      second_below v h = lex_equal cmp order q.0 p.0 q.1 v (tied_back total p.0 q.0 e) h

      first_below : (v : J) → order p.1 v → LexOrder cmp order (Some p) (Some (p.0, v))
      first_below v h = lex_equal cmp order p.0 p.0 p.1 v (tied_itself total p.0) h

      join_below : (v : J) → admitted v → order p.1 v → order q.1 v → LexOrder cmp order (Some r) (Some (p.0, v))
      join_below v b h k = join.least (Some (p.0, v)) b (first_below v h) (second_below v k)

      below_top : ByKey (cmp r.0 p.0) (order r.1 u)
      below_top = join_below u a l m

      not_less : (s : Ordering) → cmp r.0 p.0 ≡ s → ByKey s (order r.1 u) → cmp p.0 r.0 ≢ Less
      not_less Less f h below = let c : Less ≡ ordering_reverse Less = sym below ∙ total.antisymm p.0 r.0 ∙
          ap ordering_reverse f in cc
      not_less Equal f h below = let c : Less ≡ ordering_reverse Equal = sym below ∙ total.antisymm p.0 r.0 ∙
          ap ordering_reverse f in cc
      not_less Greater f h below = absurd h

      by_answers : (s : Ordering) → cmp p.0 r.0 ≡ s → ByKey s (order p.1 r.1) → cmp p.0 r.0 ≢ Less →
          (cmp r.0 p.0 ≡ Equal) × IsJoin admitted order p.1 q.1 r.1
      by_answers Less f h apart = absurd (apart f)
      by_answers Greater f h apart = absurd h
      by_answers Equal f h apart =
          let tied : cmp r.0 p.0 ≡ Equal = tied_back total p.0 r.0 f in
          let second_tied : cmp q.0 r.0 ≡ Equal = sym (total.congr p.0 q.0 r.0 e) ∙ f in
          let F : J → Ordering → Type 0 = λ v o. ByKey o (order r.1 v) in
          let G : Ordering → Type 0 = λ o. ByKey o (order q.1 r.1) in (
            tied,
            record {
              admitted_first = join.admitted_first;
              admitted_second = join.admitted_second;
              admitted_join = join.admitted_join;
              above_first = h;
              above_second = subst G second_tied join.above_second;
              least = λ v b i k. subst (F v) tied (join_below v b i k);
            },
          )

module _ {S J : Type 0} {cmp : S → S → Ordering} (total : IsTotalOrder cmp) {admitted : J → Type 0}
    {order : J → J → Type 0} {bottom : J} (laws : IsJoinOrder admitted order bottom) where
  -- where keys differ, a join means what is under the greater one
  pub lex_join_less : (p q r : S × J) → cmp p.0 q.0 ≡ Less
      → IsJoin (HoldsOnly admitted) (LexOrder cmp order) (Some p) (Some q) (Some r)
      → Same (LexOrder cmp order) (Some r) (Some q)
  lex_join_less p q r e join = (
    join.least (Some q) join.admitted_second (lex_less cmp order p.0 q.0 p.1 q.1 e)
        ((lex_order total laws).reflexive (Some q) join.admitted_second),
    join.above_second,
  )

  pub lex_join_greater : (p q r : S × J) → cmp p.0 q.0 ≡ Greater
      → IsJoin (HoldsOnly admitted) (LexOrder cmp order) (Some p) (Some q) (Some r)
      → Same (LexOrder cmp order) (Some r) (Some p)
  lex_join_greater p q r e join = (
    join.least (Some p) join.admitted_first ((lex_order total laws).reflexive (Some p) join.admitted_first)
        (lex_greater total admitted order p.0 q.0 p.1 q.1 e),
    join.above_first,
  )
