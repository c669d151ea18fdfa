-- A map as the list of its entries, which stands for a function: at an absent key it has the
-- bottom.
use Rattle.std.specs.Prelude.{◌≡◌, ◌≢◌, Bool, true, false, cond, Option, Some, None, List, [], ◌∷◌, unwrap_or}
use Rattle.std.specs.declared.cmp.Ordering.{Ordering}
use Rattle.std.specs.declared.cmp.Ordering.TheVariants.{Equal}
use Rattle.std.specs.BTreeMap.{is_at}
use Rattle.std.specs.Map.{lookup, keys_of}
use Rattle.std.specs.List.{AllByRecursion}
use Rattle.std.specs.List.Sorted.{IsStrictlySortedBy}
use Rattle.lattice_laws.specs.Order.{IsJoin, IsJoinOrder, Same}

module _ {K J : Type 0} (cmp : K → K → Ordering) where
  -- what is stored at a key
  abbrev pub stored_at : List (K × J) → K → Option J
  stored_at m k = lookup (is_at (cmp k)) m

  -- the value at a key, which is the bottom where none is stored
  abbrev pub value_at : J → List (K × J) → K → J
  value_at bottom m k = unwrap_or (stored_at m k) bottom

  -- new has at every other key what old has
  abbrev pub KeepsOtherKeys : List (K × J) → List (K × J) → K → Type 0
  KeepsOtherKeys old new key = (q : K) → cmp key q ≢ Equal → stored_at new q ≡ stored_at old q

  -- at each key the value is below
  abbrev pub MapOrder : (J → J → Type 0) → J → List (K × J) → List (K × J) → Type 0
  MapOrder order bottom m n = (k : K) → order (value_at bottom m k) (value_at bottom n k)

  module _ (admitted : J → Type 0) (order : J → J → Type 0) (bottom : J) where
    -- a value that may be stored: one of the type, and not the bottom
    abbrev pub MayBeStored : J → Type 0
    MayBeStored v = admitted v × ¬ order v bottom

    -- the keys rise, and no bottom is stored
    pub record IsMap (m : List (K × J)) : Type 0 where
      pub ordered : IsStrictlySortedBy cmp (keys_of m)
      pub stored : AllByRecursion (λ e. MayBeStored e.1) m

    -- new has the join at the key, and at every other key what old has
    pub record RaisesOnly (old new : List (K × J)) (key : K) (value : J) : Type 0 where
      pub this_key : IsJoin admitted order (value_at bottom old key) value (value_at bottom new key)
      pub other_keys : KeepsOtherKeys old new key

    -- the value is what is stored, or it is the bottom and nothing is
    abbrev pub IsStored : Option J → J → Type 0
    IsStored None value = order value bottom
    IsStored (Some held) value = (held ≡ value) × ¬ order value bottom

    -- new has the value at the key, and at every other key what old has
    pub record PutsOnly (old new : List (K × J)) (key : K) (value : J) : Type 0 where
      pub admitted_value : admitted value
      pub this_key : IsStored (stored_at new key) value
      pub other_keys : KeepsOtherKeys old new key

    -- a call was made on the value at the key, and new has there what the call left; where it left
    -- the value as it was, all is as it was
    pub record ChangesOnly {R : Type 0} (call : J → R → J → Type 0) (old new : List (K × J))
        (key : K) (answer : R) : Type 0 where
      pub held : J
      pub left : J
      pub found : stored_at old key ≡ Some held
      pub called : call held answer left
      pub put : PutsOnly old new key left
      pub kept : left ≡ held → new ≡ old

    -- all three are maps, and the third has at each key the join of what the others have
    pub record JoinsAll (x y joined : List (K × J)) : Type 0 where
      pub first_is_map : IsMap x
      pub second_is_map : IsMap y
      pub joined_is_map : IsMap joined
      pub at_each_key : (q : K)
          → IsJoin admitted order (value_at bottom x q) (value_at bottom y q) (value_at bottom joined q)

module _ {K J : Type 0} (cmp : K → K → Ordering) (admitted : J → Type 0) (order : J → J → Type 0) (bottom : J) where
  -- the value that a test finds among entries is one of the type, and so is the bottom
  admitted_found : (test : K → Bool) (m : List (K × J)) → admitted bottom
      → AllByRecursion (λ e. MayBeStored cmp admitted order bottom e.1) m
      → admitted (unwrap_or (lookup test m) bottom)
  admitted_found test [] b h = b
  admitted_found test (e ∷ m) b h = by_test (test e.0) (admitted_found test m b h.1)
    where
      by_test : (t : Bool) → admitted (unwrap_or (lookup test m) bottom)
          → admitted (unwrap_or (cond t (Some e.1) (lookup test m)) bottom)
      by_test true rest = h.0.0
      by_test false rest = rest

  -- the value at each key is one of the type
  pub admitted_at : IsJoinOrder admitted order bottom
      → (m : List (K × J)) → IsMap cmp admitted order bottom m → (k : K) → admitted (value_at cmp bottom m k)
  admitted_at laws m h k = admitted_found (is_at (cmp k)) m laws.bottom_admitted h.stored

  pub empty_is_map : IsMap cmp admitted order bottom []
  unfolding IsStrictlySortedBy
  empty_is_map = record { ordered = tt; stored = tt }

module _ {K J : Type 0} (cmp : K → K → Ordering) {admitted : J → Type 0} {order : J → J → Type 0} {bottom : J} where
  -- maps of a lattice's values are a lattice
  pub map_order : IsJoinOrder admitted order bottom
      → IsJoinOrder (IsMap cmp admitted order bottom) (MapOrder cmp order bottom) []
  map_order laws =
      let at = admitted_at cmp admitted order bottom laws in
      record {
        reflexive = λ m h k. laws.reflexive _ (at m h k);
        transitive = λ l m n a b c p q k. laws.transitive _ _ _ (at l a k) (at m b k) (at n c k) (p k) (q k);
        bottom_admitted = empty_is_map cmp admitted order bottom;
        bottom_least = λ m h k. laws.bottom_least _ (at m h k);
      }

  -- what was put at a key is what is meant there
  pub put_same : IsJoinOrder admitted order bottom → (old new : List (K × J)) (key : K) (value : J)
      → PutsOnly cmp admitted order bottom old new key value → Same order (value_at cmp bottom new key) value
  put_same laws old new key value put = by_cases (stored_at cmp new key) put.this_key
    where
      by_cases : (o : Option J) → IsStored cmp admitted order bottom o value → Same order (unwrap_or o bottom) value
      by_cases None below = (laws.bottom_least value put.admitted_value, below)
      by_cases (Some held) h =
          rw h.0 (laws.reflexive value put.admitted_value, laws.reflexive value put.admitted_value)
