-- The turns of a loop over a map's entries: what holds at each key while `rest` is still to come.
use Rattle.std.specs.Prelude.{◌≡◌, ◌≢◌, Bool, true, false, cond, Option, Some, None, List, [], ◌∷◌, unwrap_or, length}
use Rattle.std.specs.declared.cmp.Ordering.{Ordering}
use Rattle.std.specs.declared.cmp.Ordering.TheVariants.{Less, Equal, Greater}
use Rattle.std.specs.BTreeMap.{is_at}
use Rattle.std.specs.Map.{lookup, keys_of}
use Rattle.std.specs.List.{AllByRecursion, IsDistinct}
use Rattle.std.specs.Ordering.{is_eq, eq_by_cmp}
use Rattle.std.specs.Cmp.{IsTotalOrder}
use Rattle.std.proofs.Common.{refl, sym, ap, ◌∙◌, subst}
use mathlib.Core.Bool.{true≢false}
use Rattle.std.proofs.lemmas.Cmp.{tied_itself, tied_back, eq_by_cmp_equiv}
use Rattle.std.proofs.lemmas.Map.{lookup-none}
use Rattle.std.proofs.lemmas.Map.Entries.{none_past_head}
use Rattle.std.proofs.lemmas.Map.Keys.{IsDistinct-from_sorted, IsDistinct-tail}
use Rattle.lattice_laws.specs.Order.{IsCopy, IsJoin, IsJoinOrder}
use Rattle.lattice_laws.specs.Map.{IsMap, JoinsAll, MapOrder, MayBeStored, RaisesOnly, admitted_at, map_order, stored_at, value_at}
use Rattle.lattice_laws.proofs.Joins.{copy_from_bottom, copy_joins_first, copy_of_itself, join_from_copy, join_with_copy}

-- an answer tested for Equal
pub is_eq-true : (r : Ordering) → is_eq r ≡ true → r ≡ Equal
is_eq-true Less e = cc
is_eq-true Equal e = refl
is_eq-true Greater e = cc

module _ {K J : Type 0} {cmp : K → K → Ordering} (total : IsTotalOrder cmp) where
  -- equal keys have the same value
  pub stored_at_equal : (m : List (K × J)) (q k : K) → cmp q k ≡ Equal → stored_at cmp m q ≡ stored_at cmp m k
  stored_at_equal m q k e = ap (λ (test : K → Bool). lookup test m) (λ i x. ap is_eq (total.congr q k x e) i)

  -- a key equal to the first of distinct ones is not among the others
  pub none_after : (e : K × J) (rest : List (K × J)) (q : K) → IsDistinct (eq_by_cmp cmp) (keys_of (e ∷ rest))
      → is_at (cmp q) e.0 ≡ true → stored_at cmp rest q ≡ None
  none_after e rest q distinct here = lookup-none (is_at (cmp q)) rest
      (none_past_head (eq_by_cmp_equiv total) q e rest distinct here)

module _ {K J : Type 0} (cmp : K → K → Ordering) (admitted : J → Type 0) (order : J → J → Type 0) (bottom : J) where
  -- at one key, `next` being its value if it is still to come: the value is the old one, or is joined
  abbrev pub RaisedAt : Option J → J → J → J → Type 0
  RaisedAt None a b c = IsJoin admitted order a b c
  RaisedAt (Some v) a b c = (b ≡ v) × (c ≡ a)

  -- at each key
  pub record RaisedBefore (start other now rest : List (K × J)) : Type 0 where
    pub distinct : IsDistinct (eq_by_cmp cmp) (keys_of rest)
    pub each : (q : K) → RaisedAt (stored_at cmp rest q) (value_at cmp bottom start q) (value_at cmp bottom other q)
        (value_at cmp bottom now q)

  -- at one key, likewise, where values are compared
  abbrev pub BelowAt : Option J → J → J → Type 0
  BelowAt None a b = order a b
  BelowAt (Some v) a b = a ≡ v

  pub record BelowBefore (first second rest : List (K × J)) : Type 0 where
    pub distinct : IsDistinct (eq_by_cmp cmp) (keys_of rest)
    pub stored : AllByRecursion (λ e. MayBeStored cmp admitted order bottom e.1) rest
    pub each : (q : K) → BelowAt (stored_at cmp rest q) (value_at cmp bottom first q) (value_at cmp bottom second q)

module _ {K J : Type 0} {cmp : K → K → Ordering} (total : IsTotalOrder cmp) (admitted : J → Type 0)
    (order : J → J → Type 0) (bottom : J) (laws : IsJoinOrder admitted order bottom) where
  -- at first all is to come
  raised_all_to_come : (o : Option J) (a : J) → admitted a →
      RaisedAt cmp admitted order bottom o a (unwrap_or o bottom) a
  raised_all_to_come None a h = copy_joins_first laws a bottom a laws.bottom_admitted (laws.bottom_least a h)
      (copy_of_itself laws a h)
  raised_all_to_come (Some v) a h = (refl, refl)

  pub raised-init : (start other : List (K × J)) → IsMap cmp admitted order bottom start
      → IsMap cmp admitted order bottom other → RaisedBefore cmp admitted order bottom start other start other
  raised-init start other h k = record {
    distinct = IsDistinct-from_sorted cmp (keys_of other) k.ordered;
    each = λ q. raised_all_to_come (stored_at cmp other q) (value_at cmp bottom start q)
        (admitted_at cmp admitted order bottom laws start h q);
  }

  -- one key is raised by a copy
  pub raised-step : (start other now new rest : List (K × J)) (k k' : K) (v v' : J)
      → RaisedBefore cmp admitted order bottom start other now ((k, v) ∷ rest) → cmp k' k ≡ Equal
      → IsCopy admitted order v v' → RaisesOnly cmp admitted order bottom now new k' v'
      → RaisedBefore cmp admitted order bottom start other new rest
  raised-step start other now new rest k k' v v' before same copy raises = record {
    distinct = IsDistinct-tail (eq_by_cmp cmp) k (keys_of rest) before.distinct;
    each = λ q. by_test q (is_at (cmp q) k) refl (before.each q);
  }
    where
      by_test : (q : K) (t : Bool) → is_at (cmp q) k ≡ t
          → RaisedAt cmp admitted order bottom (cond t (Some v) (stored_at cmp rest q)) (value_at cmp bottom start q)
          (value_at cmp bottom other q) (value_at cmp bottom now q)
          → RaisedAt cmp admitted order bottom (stored_at cmp rest q) (value_at cmp bottom start q)
          (value_at cmp bottom other q) (value_at cmp bottom new q)
      by_test q true e h =
          let q_k : cmp q k ≡ Equal = is_eq-true (cmp q k) e in
          let q_k' : cmp q k' ≡ Equal = total.congr q k k' q_k ∙ tied_back total k' k same in
          let now_same : value_at cmp bottom now k' ≡ value_at cmp bottom start q =
          ap (λ o. unwrap_or o bottom) (sym (stored_at_equal total now q k' q_k')) ∙ h.1 in
          let new_same : value_at cmp bottom new k' ≡ value_at cmp bottom new q =
          ap (λ o. unwrap_or o bottom) (sym (stored_at_equal total new q k' q_k')) in
          let joined : IsJoin admitted order (value_at cmp bottom start q) v' (value_at cmp bottom new q) =
          subst (λ (x : J). IsJoin admitted order x v' (value_at cmp bottom new q)) now_same
          (subst (λ (x : J). IsJoin admitted order (value_at cmp bottom now k') v' x) new_same raises.this_key) in
          let at_q : IsJoin admitted order (value_at cmp bottom start q) (value_at cmp bottom other q)
          (value_at cmp bottom new q) =
          subst (λ (x : J). IsJoin admitted order (value_at cmp bottom start q) x (value_at cmp bottom new q))
          (sym h.0) (join_with_copy laws _ v v' _ copy joined) in
          subst
          (λ (o : Option J). RaisedAt cmp admitted order bottom o (value_at cmp bottom start q)
          (value_at cmp bottom other q) (value_at cmp bottom new q))
          (sym (none_after total (k, v) rest q before.distinct e)) at_q
      by_test q false e h =
          let apart : cmp k' q ≢ Equal = λ (tied : cmp k' q ≡ Equal). true≢false
          (sym (ap is_eq (total.congr q k' k (tied_back total k' q tied) ∙ same)) ∙ e) in
          subst
          (λ (c : J). RaisedAt cmp admitted order bottom (stored_at cmp rest q) (value_at cmp bottom start q)
          (value_at cmp bottom other q) c)
          (ap (λ o. unwrap_or o bottom) (sym (raises.other_keys q apart))) h

  -- at last nothing is to come
  pub raised-end : (start other now : List (K × J)) → IsMap cmp admitted order bottom start
      → IsMap cmp admitted order bottom other → IsMap cmp admitted order bottom now
      → RaisedBefore cmp admitted order bottom start other now [] → JoinsAll cmp admitted order bottom start other now
  raised-end start other now a b c before = record {
    first_is_map = a;
    second_is_map = b;
    joined_is_map = c;
    at_each_key = before.each;
  }

  below_all_to_come : (o : Option J) (b : J) → admitted b → BelowAt cmp admitted order bottom o (unwrap_or o bottom) b
  below_all_to_come None b h = laws.bottom_least b h
  below_all_to_come (Some v) b h = refl

  pub below-init : (first second : List (K × J)) → IsMap cmp admitted order bottom first
      → IsMap cmp admitted order bottom second → BelowBefore cmp admitted order bottom first second first
  below-init first second h k = record {
    distinct = IsDistinct-from_sorted cmp (keys_of first) h.ordered;
    stored = h.stored;
    each = λ q. below_all_to_come (stored_at cmp first q) (value_at cmp bottom second q)
        (admitted_at cmp admitted order bottom laws second k q);
  }

  -- one key's value is below
  pub below-step : (first second rest : List (K × J)) (k : K) (v : J)
      → BelowBefore cmp admitted order bottom first second ((k, v) ∷ rest) → order v (value_at cmp bottom second k)
      → BelowBefore cmp admitted order bottom first second rest
  below-step first second rest k v before below = record {
    distinct = IsDistinct-tail (eq_by_cmp cmp) k (keys_of rest) before.distinct;
    stored = before.stored.1;
    each = λ q. by_test q (is_at (cmp q) k) refl (before.each q);
  }
    where
      by_test : (q : K) (t : Bool) → is_at (cmp q) k ≡ t
          → BelowAt cmp admitted order bottom (cond t (Some v) (stored_at cmp rest q)) (value_at cmp bottom first q)
          (value_at cmp bottom second q)
          → BelowAt cmp admitted order bottom (stored_at cmp rest q) (value_at cmp bottom first q)
          (value_at cmp bottom second q)
      by_test q true e h =
          let second_same : value_at cmp bottom second k ≡ value_at cmp bottom second q =
          ap (λ o. unwrap_or o bottom) (sym (stored_at_equal total second q k (is_eq-true (cmp q k) e))) in
          let at_q : order (value_at cmp bottom first q) (value_at cmp bottom second q) =
          subst (λ (x : J). order x (value_at cmp bottom second q)) (sym h)
          (subst (λ (x : J). order v x) second_same below) in
          subst
          (λ (o : Option J). BelowAt cmp admitted order bottom o (value_at cmp bottom first q)
          (value_at cmp bottom second q))
          (sym (none_after total (k, v) rest q before.distinct e)) at_q
      by_test q false e h = h

  -- where one key's value is not below, the map is not
  pub below-fails : (first second rest : List (K × J)) (k : K) (v : J)
      → BelowBefore cmp admitted order bottom first second ((k, v) ∷ rest) → ¬ order v (value_at cmp bottom second k)
      → ¬ MapOrder cmp order bottom first second
  below-fails first second rest k v before above below =
      let here : is_at (cmp k) k ≡ true = ap is_eq (tied_itself total k) in
      let first_is : value_at cmp bottom first k ≡ v =
      subst
      (λ (t : Bool). BelowAt cmp admitted order bottom (cond t (Some v) (stored_at cmp rest k))
      (value_at cmp bottom first k) (value_at cmp bottom second k)) here
      (before.each k) in
      above (subst (λ (x : J). order x (value_at cmp bottom second k)) first_is (below k))

  -- a map is below the empty one where it is empty
  pub empty-below : (m : List (K × J)) → IsMap cmp admitted order bottom m → MapOrder cmp order bottom m [] →
      length m ≡ 0
  empty-below [] h below = refl
  empty-below (e ∷ m) h below =
      let here : is_at (cmp e.0) e.0 ≡ true = ap is_eq (tied_itself total e.0) in
      absurd (h.stored.0.1 (subst (λ (t : Bool). order (unwrap_or (cond t (Some e.1) (stored_at cmp m e.0)) bottom)
      bottom) here (below e.0)))

  pub below-empty : (m : List (K × J)) → length m ≡ 0 → MapOrder cmp order bottom m []
  below-empty [] e q = laws.reflexive bottom laws.bottom_admitted
  below-empty (x ∷ m) e q = cc

  -- what is the join at each key is the join
  pub joins-all : (x y joined : List (K × J)) → JoinsAll cmp admitted order bottom x y joined
      → IsJoin (IsMap cmp admitted order bottom) (MapOrder cmp order bottom) x y joined
  joins-all x y joined h = record {
    admitted_first = h.first_is_map;
    admitted_second = h.second_is_map;
    admitted_join = h.joined_is_map;
    above_first = λ q. (h.at_each_key q).above_first;
    above_second = λ q. (h.at_each_key q).above_second;
    least = λ u a l m q. (h.at_each_key q).least (value_at cmp bottom u q)
        (admitted_at cmp admitted order bottom laws u a q) (l q) (m q);
  }

  -- the empty map raised by all of another is a copy of it
  pub copy-all : (x joined : List (K × J)) → JoinsAll cmp admitted order bottom [] x joined
      → IsCopy (IsMap cmp admitted order bottom) (MapOrder cmp order bottom) x joined
  copy-all x joined h = copy_from_bottom (map_order cmp laws) x joined (joins-all [] x joined h)

  -- a copy raised by all of another map joins them
  pub join-all : (x copy y joined : List (K × J))
      → IsCopy (IsMap cmp admitted order bottom) (MapOrder cmp order bottom) x copy
      → JoinsAll cmp admitted order bottom copy y joined
      → IsJoin (IsMap cmp admitted order bottom) (MapOrder cmp order bottom) x y joined
  join-all x copy y joined h k = join_from_copy (map_order cmp laws) x copy y joined h (joins-all copy y joined k)
