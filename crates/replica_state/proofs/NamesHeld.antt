-- The names of a state that operations come to: those that have a key or a hit.
use Rattle.std.proofs.Common.{◌≡◌, ℕ, ◌≤◌, Bool, true, cond, nat_lt, List, [], ◌∷◌, ◌⊎◌, inl, inr, Some, None, Option, refl, sym, ap, subst, arith}
use Rattle.std.proofs.Math.Logic.{∥∥₁_prop, ∥∥₁_map, ∥∥₁_elim}
use Rattle.std.proofs.lemmas.Bool.{true≢false}
use Rattle.std.proofs.lemmas.Bool.Decides.{nat_tests}
use Rattle.std.proofs.lemmas.Map.Keys.{IsStrictlySortedBy-prop}
use Rattle.std.specs.Option.{IsSome}
use Rattle.std.specs.Str.{bytes_eq}
use Rattle.std.specs.List.{AllByRecursion}
use Rattle.std.specs.List.Sorted.{IsStrictlySortedBy}
use Rattle.std.specs.Ordering.{nat_cmp}
use Rattle.std.specs.Cmp.Lexicographic.{slice_cmp}
use Rattle.std.specs.declared.cmp.Ordering.TheVariants.{Less}
use Rattle.std.specs.Coded.{×_prop, Π_prop}
use Rattle.stamp_register.specs.Keys.{KeyValue}
use Rattle.operations.specs.Operations.{Hits, Execs, Shifts, Operation, Set, Count, IsIn, name_in}
use Rattle.replica_state.specs.States.{State}
use Rattle.replica_state.specs.Folds.{fold, key_in, key_of, number_at, names_of, holds_name}
use Rattle.replica_state.specs.Reached.{IsReached, AreNamesHeld}
use Rattle.replica_state.proofs.Orders.{bytes_eq-refl}
use Rattle.replica_state.proofs.Sets.{KeyUpto, key_of-is_in, number_at-is_in}
use Rattle.replica_state.proofs.Names.{IsAscending, HoldsName, names_of-ascending, names_of-holds, holds-names_of, key_named, hit_named}

-- names in order are in order
each_below : (P : List ℕ → Type 0) (xs : List (List ℕ)) → ((m : List ℕ) → IsIn m xs → P m) → AllByRecursion P xs
each_below P [] h = tt
each_below P (x ∷ xs) h = (h x (inl refl), each_below P xs (λ m k. h m (inr k)))

ascending_sorted : (ns : List (List ℕ)) → IsAscending ns → IsStrictlySortedBy (slice_cmp nat_cmp) ns
unfolding IsStrictlySortedBy
ascending_sorted [] h = tt
ascending_sorted (n ∷ ns) h = (each_below (λ m. slice_cmp nat_cmp n m ≡ Less) ns h.0, ascending_sorted ns h.1)

-- the least bound of keys that are there is there
some_upto : (a : KeyValue) (o : Option KeyValue) → KeyUpto (Some a) o → IsSome o
some_upto a None h = absurd h
some_upto a (Some b) h = refl

-- a key or a hit, of operations
Found : List ℕ → List Operation → Type 0
Found name ops = IsSome (key_of name ops) ⊎ ((node : ℕ) × (1 ≤ number_at (Hits name node) ops))

module _ (name : List ℕ) (ops : List Operation) where
  by_key : (op : Operation) (key : KeyValue) → IsIn op ops → key_in name op ≡ Some key → Found name ops
  unfolding Found
  by_key op key here e = inl (some_upto key (key_of name ops)
      (subst (λ o. KeyUpto o (key_of name ops)) e (key_of-is_in name op ops here)))

  own : (n : List ℕ) (key : KeyValue) → n ≡ name → cond (bytes_eq n name) (Some key) None ≡ Some key
  own n key e = ap (λ (t : Bool). cond t (Some key) None) (subst (λ m. bytes_eq n m ≡ true) e (bytes_eq-refl n))

  found : (op : Operation) → IsIn op ops → name_in op ≡ name → holds_name op ≡ true → Found name ops
  unfolding Found
  found (Set n key) here e h = by_key (Set n key) key here (own n key e)
  found (Count (Execs n key term node) number) here e h = by_key (Count (Execs n key term node) number) key here
      (own n key e)
  found (Count (Shifts n key term from to) number) here e h =
      by_key (Count (Shifts n key term from to) number) key here (own n key e)
  found (Count (Hits n node) number) here e h =
      let some : 1 ≤ number = grind (arith, nat_tests) in
      let upto : number ≤ number_at (Hits name node) ops = number_at-is_in (Hits name node) number ops
      (subst (λ m. IsIn (Count (Hits m node) number) ops) e here) in
      inr (node, omega arith)

  holds : Found name ops → HoldsName name ops
  unfolding Found
  holds (inl some) = by_option (key_of name ops) refl some
    where
      by_option : (o : Option KeyValue) → key_of name ops ≡ o → IsSome o → HoldsName name ops
      by_option None e h = absurd (true≢false (sym h))
      by_option (Some key) e h = key_named name ops (key, e)
  holds (inr (node, one)) =
      let positive : nat_lt 0 1 ≡ true = refl in
      hit_named name node 1 ops positive one

  named : HoldsName name ops → IsIn name (names_of ops)
  named h = subst (λ n. IsIn n (names_of ops)) h.named (holds-names_of ops h.op h.held h.counted)

names_of_fold : (ops : List Operation) → AreNamesHeld (fold ops)
unfolding fold Found
names_of_fold ops = record {
  ascending = ascending_sorted (names_of ops) (names_of-ascending ops);
  held = λ name. (
    λ h. ∥∥₁_map h (λ here. let r = names_of-holds name ops here in found name ops r.op r.held r.named r.counted),
    λ h. ∥∥₁_map h (λ f. named name ops (holds name ops f)),
  );
}

names_held-prop : (v : State) → IsProp (AreNamesHeld v)
names_held-prop v a b = λ i. record {
  ascending = IsStrictlySortedBy-prop (slice_cmp nat_cmp) v.names a.ascending b.ascending i;
  held = Π_prop (λ name. ×_prop (Π_prop (λ _. ∥∥₁_prop)) (Π_prop (λ _. ∥∥₁_prop))) a.held b.held i;
}

pub names_are_held : (v : State) → IsReached v → AreNamesHeld v
names_are_held v h = ∥∥₁_elim h (names_held-prop v) (λ c. subst AreNamesHeld (sym c.state) (names_of_fold c.ops))
