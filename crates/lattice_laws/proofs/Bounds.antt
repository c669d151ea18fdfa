-- Any two numbers, pairs or maps have a value above both.
use Rattle.std.specs.Prelude.{◌≡◌, Bool, true, false, cond, Option, Some, List, [], ◌∷◌, unwrap_or, max}
use Rattle.std.specs.declared.cmp.Ordering.{Ordering}
use Rattle.std.specs.declared.cmp.Ordering.TheVariants.{Less, Equal, Greater}
use Rattle.std.specs.Ordering.{is_eq, match_ordering, ordering_reverse}
use Rattle.std.specs.Cmp.{IsTotalOrder}
use Rattle.std.specs.BTreeMap.{insert_entry, is_at}
use Rattle.std.specs.Map.{keys_of}
use Rattle.std.specs.List.{AllByRecursion}
use Rattle.std.specs.List.Sorted.{IsStrictlySortedBy}
use Rattle.std.proofs.Common.{ap, arith, refl, subst, sym, ◌∙◌}
use Rattle.std.proofs.lemmas.Map.Keys.{sorted_tail}
use Rattle.lattice_laws.specs.Order.{IsJoinOrder}
use Rattle.lattice_laws.specs.Map.{IsMap, MapOrder, admitted_at, stored_at, value_at}
use Rattle.lattice_laws.specs.Max.{IsAtMost, IsNumber}
use Rattle.lattice_laws.specs.Pair.{AreBoth, PairOrder, pair_of}
use Rattle.lattice_laws.proofs.Entries.{inserted_is_map}
use Rattle.lattice_laws.proofs.Turns.{is_eq-true, stored_at_equal}

-- a value above both
pub record Bound {J : Type 0} (admitted : J → Type 0) (order : J → J → Type 0) (x y : J) : Type 0 where
  pub above : J
  pub is_admitted : admitted above
  pub first : order x above
  pub second : order y above

-- any two values have one
abbrev pub HaveBounds : {J : Type 0} → (J → Type 0) → (J → J → Type 0) → Type 0
HaveBounds {J} admitted order = (x y : J) → admitted x → admitted y → Bound admitted order x y

-- the greater of two numbers
pub max_bounds : HaveBounds IsNumber IsAtMost
max_bounds x y a b = record {
  above = record { 0 = max x.0 y.0 };
  is_admitted = omega (arith, a, b);
  first = omega arith;
  second = omega arith;
}

module _ {A B : Type 0} {admitted_a : A → Type 0} {order_a : A → A → Type 0} {admitted_b : B → Type 0}
    {order_b : B → B → Type 0} where
  -- a value above both first parts, and one above both second ones
  pub pair_bounds : HaveBounds admitted_a order_a → HaveBounds admitted_b order_b →
      HaveBounds (AreBoth admitted_a admitted_b) (PairOrder order_a order_b)
  pair_bounds bounds_a bounds_b x y h k =
      let a = bounds_a x.first y.first h.0 k.0 in
      let b = bounds_b x.second y.second h.1 k.1 in
      record {
        above = pair_of a.above b.above;
        is_admitted = (a.is_admitted, b.is_admitted);
        first = (a.first, b.first);
        second = (a.second, b.second);
      }

module _ {K : Type 0} {cmp : K → K → Ordering} (total : IsTotalOrder cmp) where
  -- a key below another is below all above that one
  all_above : (k l : K) (ks : List K) → cmp k l ≡ Less → AllByRecursion (λ y. cmp l y ≡ Less) ks →
      AllByRecursion (λ y. cmp k y ≡ Less) ks
  all_above k l [] less h = tt
  all_above k l (y ∷ ks) less h = (total.trans k l y less h.0, all_above k l ks less h.1)

module _ {K J : Type 0} {cmp : K → K → Ordering} (total : IsTotalOrder cmp) where
  -- what is stored at each key once an entry is put in
  stored_at-insert_entry : (m : List (K × J)) (k : K) (v : J) (q : K)
      → stored_at cmp (insert_entry cmp m k v) q ≡ cond (is_at (cmp q) k) (Some v) (stored_at cmp m q)
  stored_at-insert_entry [] k v q = refl
  stored_at-insert_entry (e ∷ m) k v q = by_order (cmp k e.0) refl (stored_at-insert_entry m k v q)
    where
      same_test : cmp k e.0 ≡ Equal → is_at (cmp q) k ≡ is_at (cmp q) e.0
      same_test tied = ap is_eq (total.antisymm q k ∙ ap ordering_reverse (total.congr k e.0 q tied) ∙
          sym (total.antisymm q e.0))

      over : (t : Bool) → cond t (Some v) (stored_at cmp m q) ≡ cond t (Some v) (cond t (Some e.1) (stored_at cmp m q))
      over true = refl
      over false = refl

      past : (s t : Bool) → is_at (cmp q) e.0 ≡ s → is_at (cmp q) k ≡ t → cmp k e.0 ≡ Greater
          → cond s (Some e.1) (cond t (Some v) (stored_at cmp m q))
          ≡ cond t (Some v) (cond s (Some e.1) (stored_at cmp m q))
      past true true here there greater =
          let c : Equal ≡ Greater = sym (is_eq-true (cmp q e.0) here) ∙
          total.congr q k e.0 (is_eq-true (cmp q k) there) ∙ greater in
          cc
      past true false here there greater = refl
      past false t here there greater = refl

      by_order : (r : Ordering) → cmp k e.0 ≡ r
          → stored_at cmp (insert_entry cmp m k v) q ≡ cond (is_at (cmp q) k) (Some v) (stored_at cmp m q)
          → stored_at cmp (match_ordering r ((k, v) ∷ e ∷ m) ((e.0, v) ∷ m) (e ∷ insert_entry cmp m k v)) q
          ≡ cond (is_at (cmp q) k) (Some v) (stored_at cmp (e ∷ m) q)
      by_order Less answer rest = refl
      by_order Equal answer rest = rw (same_test answer) (over (is_at (cmp q) e.0))
      by_order Greater answer rest = rw rest (past (is_at (cmp q) e.0) (is_at (cmp q) k) refl refl answer)

  -- what holds of each key holds with one more of which it holds
  keys-insert_entry : (P : K → Type 0) (m : List (K × J)) (k : K) (v : J) → AllByRecursion P (keys_of m) → P k
      → AllByRecursion P (keys_of (insert_entry cmp m k v))
  keys-insert_entry P [] k v h p = (p, tt)
  keys-insert_entry P (e ∷ m) k v h p = by_order (cmp k e.0) (keys-insert_entry P m k v h.1 p)
    where
      by_order : (r : Ordering) → AllByRecursion P (keys_of (insert_entry cmp m k v))
          → AllByRecursion P (keys_of (match_ordering r ((k, v) ∷ e ∷ m) ((e.0, v) ∷ m) (e ∷ insert_entry cmp m k v)))
      by_order Less rest = (p, h)
      by_order Equal rest = h
      by_order Greater rest = (h.0, rest)

  -- and the keys still rise
  sorted-insert_entry : (m : List (K × J)) (k : K) (v : J) → IsStrictlySortedBy cmp (keys_of m) →
      IsStrictlySortedBy cmp (keys_of (insert_entry cmp m k v))
  unfolding IsStrictlySortedBy
  sorted-insert_entry [] k v h = (tt, tt)
  sorted-insert_entry (e ∷ m) k v h = by_order (cmp k e.0) refl (sorted-insert_entry m k v h.1)
    where
      by_order : (r : Ordering) → cmp k e.0 ≡ r → IsStrictlySortedBy cmp (keys_of (insert_entry cmp m k v))
          → IsStrictlySortedBy cmp (keys_of (match_ordering r ((k, v) ∷ e ∷ m) ((e.0, v) ∷ m)
          (e ∷ insert_entry cmp m k v)))
      by_order Less answer rest = ((answer, all_above total k e.0 (keys_of m) answer h.0), h)
      by_order Equal answer rest = h
      by_order Greater answer rest = (
        keys-insert_entry (λ y. cmp e.0 y ≡ Less) m k v h.0
            (total.antisymm e.0 k ∙ ap ordering_reverse answer),
        rest,
      )

  module _ {admitted : J → Type 0} {order : J → J → Type 0} {bottom : J} (laws : IsJoinOrder admitted order bottom)
    where
      -- a map without its first entry is one
      rest_is_map : (e : K × J) (m : List (K × J)) → IsMap cmp admitted order bottom (e ∷ m) →
          IsMap cmp admitted order bottom m
      rest_is_map e m h = record { ordered = sorted_tail cmp e.0 (keys_of m) h.ordered; stored = h.stored.1 }

      -- a map above x and all but the first entry, with a value at that key above its own and the entry's
      with_entry : (x rest : List (K × J)) (k : K) (v : J) → IsMap cmp admitted order bottom x
          → IsMap cmp admitted order bottom ((k, v) ∷ rest)
          → (b : Bound (IsMap cmp admitted order bottom) (MapOrder cmp order bottom) x rest)
          → Bound admitted order (value_at cmp bottom b.above k) v
          → Bound (IsMap cmp admitted order bottom) (MapOrder cmp order bottom) x ((k, v) ∷ rest)
      with_entry x rest k v h e b w = record {
        above = new;
        is_admitted =
            inserted_is_map cmp admitted order bottom laws m new k w.above b.is_admitted refl
            (sorted-insert_entry m k w.above b.is_admitted.ordered) (
              w.is_admitted,
              λ below. e.stored.0.1 (laws.transitive v w.above bottom e.stored.0.0 w.is_admitted
                  laws.bottom_admitted w.second below),
            );
        first = λ q. rw (stored_at-insert_entry m k w.above q) (first_at q (is_at (cmp q) k) refl);
        second = λ q. rw (stored_at-insert_entry m k w.above q) (second_at q (is_at (cmp q) k));
      }
        where
          m : List (K × J)
          m = b.above

          new : List (K × J)
          new = insert_entry cmp m k w.above

          value_in : (q : K) → admitted (value_at cmp bottom m q)
          value_in q = admitted_at cmp admitted order bottom laws m b.is_admitted q

          first_at : (q : K) (t : Bool) → is_at (cmp q) k ≡ t →
              order (value_at cmp bottom x q) (unwrap_or (cond t (Some w.above) (stored_at cmp m q)) bottom)
          first_at q true at =
              let same : value_at cmp bottom m q ≡ value_at cmp bottom m k =
              ap (λ (o : Option J). unwrap_or o bottom) (stored_at_equal total m q k (is_eq-true (cmp q k) at)) in
              let below : order (value_at cmp bottom m q) w.above =
              subst (λ (u : J). order u w.above) (sym same) w.first in
              laws.transitive (value_at cmp bottom x q) (value_at cmp bottom m q) w.above
              (admitted_at cmp admitted order bottom laws x h q) (value_in q) w.is_admitted (b.first q) below
          first_at q false at = b.first q

          second_at : (q : K) (t : Bool)
              → order (unwrap_or (cond t (Some v) (stored_at cmp rest q)) bottom)
              (unwrap_or (cond t (Some w.above) (stored_at cmp m q)) bottom)
          second_at q true = w.second
          second_at q false = b.second q

      -- so the entries of one map go into the other, each above what is there
      pub map_bounds : HaveBounds admitted order → HaveBounds (IsMap cmp admitted order bottom)
          (MapOrder cmp order bottom)
      map_bounds bounds x [] h k = record {
        above = x;
        is_admitted = h;
        first = λ q. laws.reflexive (value_at cmp bottom x q) (admitted_at cmp admitted order bottom laws x h q);
        second = λ q. laws.bottom_least (value_at cmp bottom x q) (admitted_at cmp admitted order bottom laws x h q);
      }
      map_bounds bounds x (e ∷ rest) h k =
          let b = map_bounds bounds x rest h (rest_is_map e rest k) in
          with_entry x rest e.0 e.1 h k b
          (bounds (value_at cmp bottom b.above e.0) e.1 (admitted_at cmp admitted order bottom laws b.above
          b.is_admitted
          e.0) k.stored.0.0)
