-- What a map's entries store, and what an entry more does to it.
use Rattle.std.specs.Prelude.{◌≡◌, ◌≢◌, Bool, true, false, cond, Option, Some, None, IfSome, List, [], ◌∷◌}
use Rattle.std.specs.declared.cmp.Ordering.{Ordering}
use Rattle.std.specs.declared.cmp.Ordering.TheVariants.{Less, Equal, Greater}
use Rattle.std.specs.BTreeMap.{is_at, insert_entry, BTreeMap, Updates}
use Rattle.std.specs.Map.{lookup, keys_of, set_value, remove_entry}
use Rattle.std.specs.List.{AllByRecursion}
use Rattle.std.specs.List.Sorted.{IsStrictlySortedBy}
use Rattle.std.specs.Ordering.{is_eq, match_ordering}
use Rattle.std.specs.Option.{option_map}
use Rattle.std.proofs.Common.{ap, refl, sym, subst, ◌∙◌}
use Rattle.std.proofs.lemmas.Map.Steps.{set_value_same}
use Rattle.lattice_laws.specs.Order.{IsJoin, IsJoinOrder}
use Rattle.lattice_laws.specs.Map.{IsMap, MayBeStored, PutsOnly, stored_at}

-- an answer that isn't Equal
pub is_eq-false : (r : Ordering) → r ≢ Equal → is_eq r ≡ false
is_eq-false Less h = refl
is_eq-false Equal h = absurd (h refl)
is_eq-false Greater h = refl

module _ {K X : Type 0} (P : X → Type 0) where
  -- what holds of each value holds of the one that is found
  pub All-found : (test : K → Bool) (m : List (K × X)) → AllByRecursion (λ e. P e.1) m → IfSome (lookup test m) P
  All-found test [] h = tt
  All-found test (e ∷ m) h = by_test (test e.0) (All-found test m h.1)
    where
      by_test : (t : Bool) → IfSome (lookup test m) P → IfSome (cond t (Some e.1) (lookup test m)) P
      by_test true rest = h.0
      by_test false rest = rest

  -- and of each value after one more of which it holds
  pub All-insert_entry : (cmp : K → K → Ordering) (m : List (K × X)) (k : K) (v : X) → AllByRecursion (λ e. P e.1) m
      → P v → AllByRecursion (λ e. P e.1) (insert_entry cmp m k v)
  All-insert_entry cmp [] k v h p = (p, tt)
  All-insert_entry cmp (e ∷ m) k v h p = by_order (cmp k e.0) (All-insert_entry cmp m k v h.1 p)
    where
      by_order : (r : Ordering) → AllByRecursion (λ e. P e.1) (insert_entry cmp m k v)
          → AllByRecursion (λ e. P e.1) (match_ordering r ((k, v) ∷ e ∷ m) ((e.0, v) ∷ m) (e ∷ insert_entry cmp m k v))
      by_order Less rest = (p, h)
      by_order Equal rest = (p, h.1)
      by_order Greater rest = (h.0, rest)

  -- and of each value after one of which it holds is written
  pub All-set_value : (test : K → Bool) (m : List (K × X)) (w : X) → AllByRecursion (λ e. P e.1) m → P w →
      AllByRecursion (λ e. P e.1) (set_value test m w)
  All-set_value test [] w h p = tt
  All-set_value test (e ∷ m) w h p = by_test (test e.0) (All-set_value test m w h.1 p)
    where
      by_test : (t : Bool) → AllByRecursion (λ e. P e.1) (set_value test m w) →
          AllByRecursion (λ e. P e.1) (cond t ((e.0, w) ∷ m) (e ∷ set_value test m w))
      by_test true rest = (p, h.1)
      by_test false rest = (h.0, rest)

  -- and of each value after one is taken out
  pub All-remove_entry : (test : K → Bool) (m : List (K × X)) → AllByRecursion (λ e. P e.1) m →
      AllByRecursion (λ e. P e.1) (remove_entry test m)
  All-remove_entry test [] h = tt
  All-remove_entry test (e ∷ m) h = by_test (test e.0) (All-remove_entry test m h.1)
    where
      by_test : (t : Bool) → AllByRecursion (λ e. P e.1) (remove_entry test m) →
          AllByRecursion (λ e. P e.1) (cond t m (e ∷ remove_entry test m))
      by_test true rest = h.1
      by_test false rest = (h.0, rest)

-- what was written to an entry goes with it
pub remove_entry-set_value : {K X : Type 0} (test : K → Bool) (m : List (K × X)) (w : X) →
    remove_entry test (set_value test m w) ≡ remove_entry test m
remove_entry-set_value test [] w = refl
remove_entry-set_value {K} {X} test (e ∷ m) w = by_test (test e.0) refl (remove_entry-set_value test m w)
  where
    by_test : (t : Bool) → test e.0 ≡ t → remove_entry test (set_value test m w) ≡ remove_entry test m
        → remove_entry test (cond t ((e.0, w) ∷ m) (e ∷ set_value test m w)) ≡ cond t m (e ∷ remove_entry test m)
    by_test true here rest = rw here refl
    by_test false here rest = rw here (ap (λ (es : List (K × X)). e ∷ es) rest)

-- a value that is written over itself changes nothing
pub written_over_itself : {K X : Type 0} (test : K → Bool) (m n : List (K × X)) (held left : X)
    → Some held ≡ lookup test m → left ≡ held → n ≡ set_value test m left → n ≡ m
written_over_itself test m n held left found same written = written ∙
    set_value_same test m left (sym found ∙ ap (λ v. Some v) (sym same))

module _ {K J : Type 0} (cmp : K → K → Ordering) (admitted : J → Type 0) (order : J → J → Type 0) (bottom : J) where
  -- a value that may be stored was written at the key
  pub put-written : (m n : BTreeMap K J) (key : K) (value : J) → MayBeStored cmp admitted order bottom value
      → Updates cmp m n key (Some value) → PutsOnly cmp admitted order bottom m.entries n.entries key value
  put-written m n key value stored updates = record {
    admitted_value = stored.0;
    this_key = rw updates.1 (refl, stored.1);
    other_keys = λ q h. updates.2 q (is_eq-false (cmp key q) h);
  }

  -- the bottom was written at the key, and taken out
  pub put-removed : (m n o : BTreeMap K J) (key : K) (value : J) → admitted value → order value bottom
      → Updates cmp m n key (Some value) → Updates cmp n o key None
      → PutsOnly cmp admitted order bottom m.entries o.entries key value
  put-removed m n o key value a below written removed = record {
    admitted_value = a;
    this_key = rw removed.1 below;
    other_keys = λ q h. removed.2 q (is_eq-false (cmp key q) h) ∙ written.2 q (is_eq-false (cmp key q) h);
  }

  -- a map stays one where what may be stored is written to an entry
  pub written_is_map : (m n : List (K × J)) (test : K → Bool) (v : J) → IsMap cmp admitted order bottom m
      → n ≡ set_value test m v → IsStrictlySortedBy cmp (keys_of n) → MayBeStored cmp admitted order bottom v
      → IsMap cmp admitted order bottom n
  written_is_map m n test v h e ordered stored = record {
    ordered = ordered;
    stored = rw e (All-set_value (MayBeStored cmp admitted order bottom) test m v h.stored stored);
  }

  -- and where anything is written to an entry that is then taken out
  pub removed_is_map : (m n o : List (K × J)) (test : K → Bool) (v : J) → IsMap cmp admitted order bottom m
      → n ≡ set_value test m v → o ≡ remove_entry test n → IsStrictlySortedBy cmp (keys_of o)
      → IsMap cmp admitted order bottom o
  removed_is_map m n o test v h e f ordered = record {
    ordered = ordered;
    stored =
        let g : o ≡ remove_entry test m = f ∙ ap (remove_entry test) e ∙ remove_entry-set_value test m v in
        rw g (All-remove_entry (MayBeStored cmp admitted order bottom) test m h.stored);
  }

module _ {K J : Type 0} (cmp : K → K → Ordering) (admitted : J → Type 0) (order : J → J → Type 0) (bottom : J)
    (laws : IsJoinOrder admitted order bottom) where
  -- a join of a value that may be stored may be stored
  pub join_may_be_stored : (x y j : J) → IsJoin admitted order x y j → MayBeStored cmp admitted order bottom x →
      MayBeStored cmp admitted order bottom j
  join_may_be_stored x y j join stored = (
    join.admitted_join,
    λ below. stored.1 (laws.transitive x j bottom join.admitted_first join.admitted_join
        laws.bottom_admitted join.above_first below),
  )

  -- what is found in a map may be stored
  pub found_may_be_stored : (m : List (K × J)) (k : K) (v : J) → IsMap cmp admitted order bottom m
      → Some v ≡ stored_at cmp m k → MayBeStored cmp admitted order bottom v
  found_may_be_stored m k v h e =
      let F : Option J → Type 0 = λ o. IfSome o (MayBeStored cmp admitted order bottom) in
      subst F (sym e) (All-found (MayBeStored cmp admitted order bottom) (is_at (cmp k)) m h.stored)

  -- a map stays one with an entry more
  pub inserted_is_map : (m n : List (K × J)) (k : K) (v : J) → IsMap cmp admitted order bottom m
      → n ≡ insert_entry cmp m k v → IsStrictlySortedBy cmp (keys_of n) → MayBeStored cmp admitted order bottom v
      → IsMap cmp admitted order bottom n
  inserted_is_map m n k v h e ordered stored = record {
    ordered = ordered;
    stored = rw e (All-insert_entry (MayBeStored cmp admitted order bottom) cmp m k v h.stored stored);
  }

module _ {A J : Type 0} (P : J → Type 0) where
  -- what holds of a value that was found holds of the reference to it
  pub IfSome-through : (shows : A → J) (r : Option A) (o : Option J) → option_map shows r ≡ o → IfSome o P →
      IfSome r (λ v. P (shows v))
  IfSome-through shows None o e h = tt
  IfSome-through shows (Some v) o e h = let F : Option J → Type 0 = λ x. IfSome x P in subst F (sym e) h

-- a weaker fact holds of what there is
pub IfSome-weaken : {A : Type 0} (P Q : A → Type 0) (r : Option A) → ((v : A) → P v → Q v) → IfSome r P → IfSome r Q
IfSome-weaken P Q None f h = tt
IfSome-weaken P Q (Some v) f h = f v h
