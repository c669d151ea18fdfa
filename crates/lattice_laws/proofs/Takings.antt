-- A map that takes in another one key by key: what it means when the others are already in.
use Rattle.std.specs.Prelude.{◌≡◌, ◌≢◌, ◌<◌, Bool, true, false, cond, Option, Some, None, List, [], ◌∷◌, unwrap_or, length, IsSome, Result, Ok, Err, OnOk}
use Rattle.std.specs.declared.cmp.Ordering.{Ordering}
use Rattle.std.specs.declared.cmp.Ordering.TheVariants.{Less, Equal, Greater}
use Rattle.std.specs.BTreeMap.{is_at, insert_entry}
use Rattle.std.specs.Map.{keys_of, remove_entry}
use Rattle.std.specs.Ordering.{is_eq, match_ordering}
use Rattle.std.specs.Cmp.{IsTotalOrder}
use Rattle.std.proofs.Common.{arith, refl, sym, ap, ◌∙◌}
use mathlib.Core.Bool.{false≢true, true≢false}
use Rattle.std.proofs.lemmas.Cmp.{tied_itself, tied_back}
use Rattle.std.proofs.lemmas.Map.{NonePasses, none_passes_from_lookup}
use Rattle.std.proofs.lemmas.Map.Keys.{IsDistinct-from_sorted}
use Rattle.lattice_laws.specs.Order.{IsJoin, IsJoinOrder}
use Rattle.lattice_laws.specs.Map.{IsMap, JoinsAll, MapOrder, MayBeStored, RaisesOnly, admitted_at, stored_at, value_at}
use Rattle.lattice_laws.proofs.Joins.{copy_joins_first, copy_of_itself, join_swapped, join_with_below}
use Rattle.lattice_laws.proofs.Turns.{is_eq-true, joins-all, none_after, raised-end, raised-init, raised-step, stored_at_equal}

-- no entries
pub no-entries : {A : Type 0} (m : List A) → length m ≡ 0 → m ≡ []
no-entries [] e = refl
no-entries (x ∷ m) e = cc

pub no-first : {A : Type 0} (m : List A) → (0 < length m → false ≡ true) → m ≡ []
no-first [] e = refl
no-first (x ∷ m) e = absurd (false≢true (e (omega arith)))

-- a new entry leaves again
module _ {K J : Type 0} (cmp : K → K → Ordering) (k : K) (v : J) (test : K → Bool) (here : test k ≡ true)
    (same : (q : K) → cmp k q ≡ Equal → test q ≡ true) where
  removed-inserted : (m : List (K × J)) → NonePasses test m → remove_entry test (insert_entry cmp m k v) ≡ m
  removed-inserted [] none = rw here refl
  removed-inserted (e ∷ m) none = by_order (cmp k e.0) refl (removed-inserted m none.1)
    where
      by_order : (r : Ordering) → cmp k e.0 ≡ r → remove_entry test (insert_entry cmp m k v) ≡ m
          → remove_entry test (match_ordering r ((k, v) ∷ e ∷ m) ((e.0, v) ∷ m) (e ∷ insert_entry cmp m k v)) ≡ e ∷ m
      by_order Less at rest = rw here refl
      by_order Equal at rest = absurd (true≢false (sym (same e.0 at) ∙ none.0))
      by_order Greater at rest = rw none.0 (ap (λ (es : List (K × J)). e ∷ es) rest)

-- a key that isn't found at q isn't equal to q
apart : {K : Type 0} {cmp : K → K → Ordering} → IsTotalOrder cmp → (k q : K) → is_at (cmp q) k ≡ false → cmp k q ≢ Equal
apart total k q e tied = true≢false (sym (ap is_eq (tied_back total k q tied)) ∙ e)

module _ {K J : Type 0} {cmp : K → K → Ordering} (total : IsTotalOrder cmp) where
  -- by any key that is equal to the new one
  pub taken-back : (m n o : List (K × J)) (k k' : K) (v : J) → cmp k' k ≡ Equal → stored_at cmp m k ≡ None
      → n ≡ insert_entry cmp m k v → o ≡ remove_entry (is_at (cmp k')) n → o ≡ m
  taken-back m n o k k' v tied absent inserted removed =
      let absent' : stored_at cmp m k' ≡ None = stored_at_equal total m k' k tied ∙ absent in
      removed ∙ ap (remove_entry (is_at (cmp k'))) inserted
      ∙ removed-inserted cmp k v (is_at (cmp k')) (ap is_eq tied) (λ q e. ap is_eq (total.congr k' k q tied ∙ e)) m
      (none_passes_from_lookup (is_at (cmp k')) m absent')

module _ {K J : Type 0} {cmp : K → K → Ordering} (total : IsTotalOrder cmp) (admitted : J → Type 0)
    (order : J → J → Type 0) (bottom : J) (laws : IsJoinOrder admitted order bottom) where
  -- a map joined with the empty one stays
  pub joins-none : (x : List (K × J)) → IsMap cmp admitted order bottom x → IsMap cmp admitted order bottom [] →
      JoinsAll cmp admitted order bottom x [] x
  joins-none x h e = record {
    first_is_map = h;
    second_is_map = e;
    joined_is_map = h;
    at_each_key = λ q.
        let a : admitted (value_at cmp bottom x q) = admitted_at cmp admitted order bottom laws x h q in
        copy_joins_first laws (value_at cmp bottom x q) bottom (value_at cmp bottom x q) laws.bottom_admitted
        (laws.bottom_least (value_at cmp bottom x q) a) (copy_of_itself laws (value_at cmp bottom x q) a);
  }

  -- one key raised joins the map of that key
  pub joins-one : (x new : List (K × J)) (k : K) (v : J) → IsMap cmp admitted order bottom x
      → IsMap cmp admitted order bottom ((k, v) ∷ []) → IsMap cmp admitted order bottom new
      → RaisesOnly cmp admitted order bottom x new k v → JoinsAll cmp admitted order bottom x ((k, v) ∷ []) new
  joins-one x new k v h e n raises =
      raised-end total admitted order bottom laws x ((k, v) ∷ []) new h e n
      (raised-step total admitted order bottom laws x ((k, v) ∷ []) x new [] k k v v
      (raised-init total admitted order bottom laws x ((k, v) ∷ []) h e) (tied_itself total k)
      (copy_of_itself laws v e.stored.0.0) raises)

  -- a joined value goes to its key when the others are in
  pub joins-beside : (x rest mid new : List (K × J)) (k : K) (held v j : J)
      → IsMap cmp admitted order bottom ((k, v) ∷ rest) → IsMap cmp admitted order bottom new
      → Some held ≡ stored_at cmp x k → IsJoin admitted order held v j → JoinsAll cmp admitted order bottom x rest mid
      → stored_at cmp new k ≡ Some j → ((q : K) → cmp k q ≢ Equal → stored_at cmp new q ≡ stored_at cmp mid q)
      → JoinsAll cmp admitted order bottom x ((k, v) ∷ rest) new
  joins-beside x rest mid new k held v j e n found join before here others = record {
    first_is_map = before.first_is_map;
    second_is_map = e;
    joined_is_map = n;
    at_each_key = λ q. by_test q (is_at (cmp q) k) refl;
  }
    where
      by_test : (q : K) (t : Bool) → is_at (cmp q) k ≡ t
          → IsJoin admitted order (value_at cmp bottom x q) (unwrap_or (cond t (Some v) (stored_at cmp rest q)) bottom)
          (value_at cmp bottom new q)
      by_test q true at =
          let tied : cmp q k ≡ Equal = is_eq-true (cmp q k) at in
          rw (stored_at_equal total x q k tied ∙ sym found, stored_at_equal total new q k tied ∙ here) join
      by_test q false at = rw (others q (apart total k q at)) (before.at_each_key q)

  -- a value that is below goes in with the others
  pub joins-below : (x rest new : List (K × J)) (k : K) (held v : J) → IsMap cmp admitted order bottom ((k, v) ∷ rest)
      → Some held ≡ stored_at cmp x k → order v held → JoinsAll cmp admitted order bottom x rest new
      → JoinsAll cmp admitted order bottom x ((k, v) ∷ rest) new
  joins-below x rest new k held v e found below after = record {
    first_is_map = after.first_is_map;
    second_is_map = e;
    joined_is_map = after.joined_is_map;
    at_each_key = λ q. by_test q (is_at (cmp q) k) refl (after.at_each_key q);
  }
    where
      by_test : (q : K) (t : Bool) → is_at (cmp q) k ≡ t
          → IsJoin admitted order (value_at cmp bottom x q) (value_at cmp bottom rest q) (value_at cmp bottom new q)
          → IsJoin admitted order (value_at cmp bottom x q) (unwrap_or (cond t (Some v) (stored_at cmp rest q)) bottom)
          (value_at cmp bottom new q)
      by_test q true at joined =
          let none : stored_at cmp rest q ≡ None = none_after total (k, v) rest q
          (IsDistinct-from_sorted cmp (keys_of ((k, v) ∷ rest)) e.ordered) at in
          let joined' : IsJoin admitted order (value_at cmp bottom x q) bottom (value_at cmp bottom new q) =
          rw none at joined in
          let held_here : value_at cmp bottom x q ≡ held =
          ap (λ (o : Option J). unwrap_or o bottom) (stored_at_equal total x q k (is_eq-true (cmp q k) at) ∙
          sym found) in
          join_with_below laws (value_at cmp bottom x q) v (value_at cmp bottom new q) e.stored.0.0 (rw held_here below)
          joined'
      by_test q false at joined = joined

  -- the others go in after a new key
  pub joins-after : (x mid rest new : List (K × J)) (k : K) (v : J) → IsMap cmp admitted order bottom x
      → IsMap cmp admitted order bottom ((k, v) ∷ rest) → stored_at cmp x k ≡ None → stored_at cmp mid k ≡ Some v
      → ((q : K) → cmp k q ≢ Equal → stored_at cmp mid q ≡ stored_at cmp x q)
      → JoinsAll cmp admitted order bottom mid rest new → JoinsAll cmp admitted order bottom x ((k, v) ∷ rest) new
  joins-after x mid rest new k v h e absent here others after = record {
    first_is_map = h;
    second_is_map = e;
    joined_is_map = after.joined_is_map;
    at_each_key = λ q. by_test q (is_at (cmp q) k) refl (after.at_each_key q);
  }
    where
      by_test : (q : K) (t : Bool) → is_at (cmp q) k ≡ t
          → IsJoin admitted order (value_at cmp bottom mid q) (value_at cmp bottom rest q) (value_at cmp bottom new q)
          → IsJoin admitted order (value_at cmp bottom x q) (unwrap_or (cond t (Some v) (stored_at cmp rest q)) bottom)
          (value_at cmp bottom new q)
      by_test q true at joined =
          let tied : cmp q k ≡ Equal = is_eq-true (cmp q k) at in
          let none : stored_at cmp rest q ≡ None = none_after total (k, v) rest q
          (IsDistinct-from_sorted cmp (keys_of ((k, v) ∷ rest)) e.ordered) at in
          let joined' : IsJoin admitted order v bottom (value_at cmp bottom new q) =
          rw (stored_at_equal total mid q k tied ∙ here, none) at joined in
          rw (stored_at_equal total x q k tied ∙ absent) (join_swapped joined')
      by_test q false at joined = rw (sym (others q (apart total k q at))) joined

  -- a value that is there stays one
  pub still-stored : (x rest mid : List (K × J)) (k : K) (held : J) → MayBeStored cmp admitted order bottom held
      → Some held ≡ stored_at cmp x k → JoinsAll cmp admitted order bottom x rest mid → IsSome (stored_at cmp mid k)
  still-stored x rest mid k held stored found after = by_cases (stored_at cmp mid k)
      (rw (sym found) at (after.at_each_key k).above_first)
    where
      by_cases : (o : Option J) → order held (unwrap_or o bottom) → IsSome o
      by_cases None below = absurd (stored.1 below)
      by_cases (Some v) below = refl

  -- what joins at each key joins, where nothing was refused
  pub may_join_all : {E : Type 0} (x y joined : List (K × J)) (r : Result (Unit {0}) E)
      → OnOk r (JoinsAll cmp admitted order bottom x y joined)
      → OnOk r (IsJoin (IsMap cmp admitted order bottom) (MapOrder cmp order bottom) x y joined)
  may_join_all x y joined (Ok u) h = joins-all total admitted order bottom laws x y joined h
  may_join_all x y joined (Err e) h = tt
