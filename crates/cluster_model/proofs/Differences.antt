-- What differs between two states of a node brings whoever is above the first above the second; and states of sets
-- that are below each other are one.
use Rattle.std.proofs.Common.{◌≡◌, ◌≢◌, ℕ, ◌≤◌, true, List, ◌++◌, ◌⊎◌, inl, inr, refl, sym, ◌∙◌, ap, subst, arith, ⊎_elim, Option, Some, None}
use Rattle.std.proofs.lemmas.Bool.{cases_eq}
use Rattle.stamp_register.specs.Keys.{KeyValue}
use Rattle.operations.specs.Operations.{Hits, Execs, Shifts, Operation, Set, Count, IsIn, name_in}
use Rattle.replica_state.specs.States.{State}
use Rattle.replica_state.specs.Folds.{fold, key_in, key_of, number_at, at_key, holds_name}
use Rattle.replica_state.specs.StateOrder.{IsBelow, below-trans}
use Rattle.replica_state.specs.Deltas.{IsInDelta, IsDelta}
use Rattle.replica_state.proofs.Sets.{number_at-is_in, KeyUpto, KeyUpto-trans, KeyUpto-antisym, key_of-is_in}
use Rattle.operations.proofs.Members.{IsIn-append_left}
use Rattle.replica_state.proofs.Names.{HoldsName, names_same, key_named, hit_named}
use Rattle.replica_state.proofs.KnownSets.{own_name, keys_only, union_above_right}
use Rattle.node_steps.proofs.UptoStates.{IsUptoAt, cases_key, upto_below, below_upto}

-- ---- states of sets that are below each other are one

le_antisym : (a b : ℕ) → a ≤ b → b ≤ a → a ≡ b
le_antisym a b h k = omega arith

-- a name that one holds the other holds too
below_named : (a b : List Operation) → IsBelow (fold a) (fold b) → (name : List ℕ) → HoldsName name a → HoldsName name b
unfolding fold
below_named a b below name h = subst (λ n. HoldsName n b) h.named (of h.op h.held h.counted)
  where
    keyed : (n : List ℕ) (key : KeyValue) (op : Operation) → key_in n op ≡ Some key → IsIn op a → HoldsName n b
    keyed n key op carries held = at (key_of n b) refl (KeyUpto-trans (Some key) (key_of n a) (key_of n b)
        (subst (λ k. KeyUpto k (key_of n a)) carries (key_of-is_in n op a held))
        (keys_only n (fold a) (fold b) (below n)))
      where
        at : (o : Option KeyValue) → key_of n b ≡ o → KeyUpto (Some key) o → HoldsName n b
        at None e u = absurd u
        at (Some k) e u = key_named n b (k, e)

    of : (op : Operation) → IsIn op a → holds_name op ≡ true → HoldsName (name_in op) b
    of (Set n key) m t = keyed n key (Set n key) (own_name n key) m
    of (Count (Hits n node) number) m t =
        let here = number_at-is_in (Hits n node) number a m in
        let there = (below n).hits node in
        hit_named n node number b t (omega arith)
    of (Count (Execs n key term node) number) m t = keyed n key (Count (Execs n key term node) number) (own_name n key)
        m
    of (Count (Shifts n key term from to) number) m t = keyed n key (Count (Shifts n key term from to) number)
        (own_name n key) m

below_names : (a b : List Operation) → IsBelow (fold a) (fold b) → IsBelow (fold b) (fold a) →
    (fold a).names ≡ (fold b).names
unfolding fold
below_names a b h k = names_same a b (below_named a b h) (below_named b a k)

pub below_antisym : (a b : List Operation) → IsBelow (fold a) (fold b) → IsBelow (fold b) (fold a) → fold a ≡ fold b
below_antisym a b h k =
    let l : (name : List ℕ) → IsUptoAt (fold a) (fold b) name = λ name. upto_below (fold a) (fold b) name (h name) in
    let r : (name : List ℕ) → IsUptoAt (fold b) (fold a) name = λ name. upto_below (fold b) (fold a) name (k name) in
    let keys : (name : List ℕ) → (fold a).key name ≡ (fold b).key name =
    λ name. KeyUpto-antisym _ _ (l name).key (r name).key in
    let hits : (name : List ℕ) (node : ℕ) → (fold a).hits name node ≡ (fold b).hits name node =
    λ name node. le_antisym _ _ ((l name).hits node) ((r name).hits node) in
    let execs : (name : List ℕ) (term node : ℕ) → (fold a).execs name term node ≡ (fold b).execs name term node =
    λ name term node. le_antisym _ _ ((l name).execs (keys name) term node)
    ((r name).execs (sym (keys name)) term node) in
    let shifts : (name : List ℕ) (term from to : ℕ) → (fold a).shifts name term from to ≡ (fold b).shifts name term from
    to =
    λ name term from to. le_antisym _ _ ((l name).shifts (keys name) term from to)
    ((r name).shifts (sym (keys name)) term from to) in
    λ i. record {
      names = below_names a b h k i;
      key = λ name. keys name i;
      hits = λ name node. hits name node i;
      execs = λ name term node. execs name term node i;
      shifts = λ name term from to. shifts name term from to i;
    }

-- ---- a difference brings a set that is above its base above what it was made of

-- a number that is told where it differs is reached
reached : (before now least : ℕ) → before ≤ least → (now ≢ 0 → before ≢ now → now ≤ least) → now ≤ least
reached before now least h f = ⊎_elim
    (λ z. omega arith)
    (λ ne. ⊎_elim (λ e. omega arith) (λ d. f ne d) (cases_eq before now))
    (cases_eq now 0)

module _ (v : State) (made ops others : List Operation) (delta : IsDelta v (fold made) ops) (name : List ℕ) where
  abbrev all : List Operation
  all = ops ++ others

  comes : (op : Operation) → IsInDelta v (fold made) op → IsIn op all
  comes op d = IsIn-append_left op ops others ((delta op).1 d)

  key_upto : IsUptoAt v (fold all) name → KeyUpto (key_of name made) (key_of name all)
  unfolding fold
  key_upto base = at (key_of name made) refl (cases_key (v.key name) (key_of name made))
    where
      at : (k : Option KeyValue) → key_of name made ≡ k → (v.key name ≡ key_of name made) ⊎
          (v.key name ≡ key_of name made → ⊥) → KeyUpto k (key_of name all)
      at None e d = tt
      at (Some key) e (inl s) = subst (λ k. KeyUpto k (key_of name all)) (s ∙ e) base.key
      at (Some key) e (inr d) = subst (λ k. KeyUpto k (key_of name all)) (own_name name key)
          (key_of-is_in name (Set name key) all (comes (Set name key)
          (e, λ same. d ((same (Set name key) refl).1 e ∙ sym e))))

  cell_upto : (cell : KeyValue → ℕ) (before least : ℕ) → key_of name made ≡ key_of name all →
      (v.key name ≡ key_of name all → before ≤ least) →
      ((key : KeyValue) → key_of name made ≡ Some key → at_key (key_of name made) cell ≢ 0 →
      (v.key name ≡ key_of name made → before ≢ at_key (key_of name made) cell) →
      at_key (key_of name made) cell ≤ least) →
      at_key (key_of name made) cell ≤ least
  cell_upto cell before least e h f = at (key_of name made) refl
    where
      at : (k : Option KeyValue) → key_of name made ≡ k → at_key (key_of name made) cell ≤ least
      at None p =
          let none : at_key (key_of name made) cell ≡ 0 = ap (λ o. at_key o cell) p in
          omega arith
      at (Some key) p = ⊎_elim
          (λ s. reached before (at_key (key_of name made) cell) least (h (s ∙ e)) (λ ne d. f key p ne (λ s. d)))
          (λ d. ⊎_elim
          (λ (z : at_key (key_of name made) cell ≡ 0). omega arith)
          (λ ne. f key p ne (λ s. absurd (d s)))
          (cases_eq (at_key (key_of name made) cell) 0))
          (cases_key (v.key name) (key_of name made))

  delta_upto : IsUptoAt v (fold all) name → IsUptoAt (fold made) (fold all) name
  unfolding fold
  delta_upto base =
      record {
        key = key_upto base;
        hits = λ node. reached (v.hits name node) (number_at (Hits name node) made) _ (base.hits node)
            (λ ne d. number_at-is_in (Hits name node) _ all (comes
            (Count (Hits name node) (number_at (Hits name node) made)) ((refl, ne), λ told. d told.0)));
        execs = λ e term node. cell_upto (λ key. number_at (Execs name key term node) made) (v.execs name term node)
            ((fold all).execs name term node) e (λ s. base.execs s term node) (λ key k ne d.
            subst (λ m. (fold made).execs name term node ≤ m)
            (sym (ap (λ o. at_key o (λ l. number_at (Execs name l term node) all)) (sym e ∙ k)))
            (number_at-is_in (Execs name key term node) _ all
            (comes (Count (Execs name key term node) ((fold made).execs name term node))
            (((k, refl), ne), λ told. d (told.0.0 ∙ sym k) told.0.1))));
        shifts = λ e term from to. cell_upto (λ key. number_at (Shifts name key term from to) made)
            (v.shifts name term from to) ((fold all).shifts name term from to) e (λ s. base.shifts s term from to)
            (λ key k ne d.
            subst (λ m. (fold made).shifts name term from to ≤ m)
            (sym (ap (λ o. at_key o (λ l. number_at (Shifts name l term from to) all)) (sym e ∙ k)))
            (number_at-is_in (Shifts name key term from to) _ all
            (comes (Count (Shifts name key term from to) ((fold made).shifts name term from to))
            (((k, refl), ne), λ told. d (told.0.0 ∙ sym k) told.0.1))));
      }

-- what is above the base is above the rest too, once it has the difference
pub delta_brings : (v : State) (made ops others : List Operation) → IsDelta v (fold made) ops →
    IsBelow v (fold others) → IsBelow (fold made) (fold (ops ++ others))
delta_brings v made ops others delta below name =
    below_upto _ _ name (delta_upto v made ops others delta name
    (upto_below _ _ name (below-trans v (fold others) (fold (ops ++ others)) below (union_above_right ops others)
    name)))
