-- Whether operations change the state of a set.
use Rattle.std.proofs.Common.{◌≡◌, ℕ, ◌≤◌, Bool, true, false, cond, not, ◌||◌, List, [], ◌∷◌, ◌++◌, inl, inr, ◌↔◌, refl, sym, ◌∙◌, ap, subst, arith, ⊎_elim, Option, Some, None, nat_le}
use Rattle.std.proofs.lemmas.Bool.{true≢false, leb-true, le-leb, or_parts, not-false}
use Rattle.std.specs.List.{list_any}
use Rattle.std.specs.Str.{bytes_eq}
use Rattle.std.proofs.lemmas.Slice.Eq.{bytes_eq-Decides}
use Rattle.stamp_register.specs.Keys.{KeyValue, key_le, same_key}
use Rattle.operations.specs.Operations.{Cell, Hits, Execs, Shifts, Operation, Set, Count, IsIn, name_in}
use Rattle.replica_state.specs.Folds.{fold, key_in, key_of, number_at, at_key, names_of, holds_name}
use Rattle.replica_state.specs.States.{State}
use Rattle.replica_state.specs.Knowledge.{is_upto, knows_count, knows, changes}
use Rattle.replica_state.proofs.Names.{HoldsName, names_same, key_named, hit_named}
use Rattle.replica_state.proofs.Orders.{key_le-refl, same_key-true, same_key-refl}
use Rattle.replica_state.proofs.Sets.{number_at-is_in, number_at-least, KeyUpto, KeyUpto-antisym, key_of-is_in, key_of-least, key_of-mono}
use Rattle.operations.proofs.Members.{IsIn-append_left, IsIn-append_right, IsIn-append_cases}
use Rattle.replica_state.proofs.KnownSets.{own_name}

pub upto_true : (a b : Option KeyValue) → is_upto a b ≡ true → KeyUpto a b
upto_true None b h = tt
upto_true (Some a) None h = absurd (true≢false (sym h))
upto_true (Some a) (Some b) h = h

pub true_upto : (a b : Option KeyValue) → KeyUpto a b → is_upto a b ≡ true
true_upto None b h = refl
true_upto (Some a) None h = absurd h
true_upto (Some a) (Some b) h = h

pub any_false : (test : Operation → Bool) (ops : List Operation) → list_any test ops ≡ false → (op : Operation) →
    IsIn op ops → test op ≡ false
any_false test [] h op m = absurd m
any_false test (o ∷ ops) h op (inl e) = ap test e ∙ (or_parts (test o) (list_any test ops) h).0
any_false test (o ∷ ops) h op (inr m) = any_false test ops (or_parts (test o) (list_any test ops) h).1 op m

pub false_any : (test : Operation → Bool) (ops : List Operation) → ((op : Operation) → IsIn op ops → test op ≡ false) →
    list_any test ops ≡ false
false_any test [] h = refl
false_any test (o ∷ ops) h = both (test o) (list_any test ops) (h o (inl refl))
    (false_any test ops (λ op m. h op (inr m)))
  where
    both : (a b : Bool) → a ≡ false → b ≡ false → (a || b) ≡ false
    both true b h k = h
    both false b h k = k

-- the key and the number of a count that the state knows
pub count_known : (key : KeyValue) (number here : ℕ) (k : Option KeyValue) → knows_count key number here k ≡ true →
    KeyUpto (Some key) k × ((k ≡ Some key) → number ≤ here)
count_known key number here None h = absurd (true≢false (sym h))
count_known key number here (Some other) h = at (same_key other key) refl h
  where
    at : (t : Bool) → same_key other key ≡ t → cond t (nat_le number here) (key_le key other) ≡ true →
        (key_le key other ≡ true) × ((Some other ≡ Some key) → number ≤ here)
    at true e f = (
      subst (λ k. key_le key k ≡ true) (sym (same_key-true other key e)) (key_le-refl key),
      λ g. leb-true number here f,
    )
    at false e f = (
      f,
      λ g.
          let same : other ≡ key = cc in
          absurd (true≢false (sym (subst (λ k. same_key other k ≡ true) same (same_key-refl other)) ∙ e)),
    )

pub known_count : (key : KeyValue) (number here : ℕ) (k : Option KeyValue) → KeyUpto (Some key) k →
    ((k ≡ Some key) → number ≤ here) → knows_count key number here k ≡ true
known_count key number here None h f = absurd h
known_count key number here (Some other) h f = at (same_key other key) refl
  where
    at : (t : Bool) → same_key other key ≡ t → cond t (nat_le number here) (key_le key other) ≡ true
    at true e = le-leb number here (f (ap Some (same_key-true other key e)))
    at false e = h

upto_some : (key : KeyValue) (k : Option KeyValue) → KeyUpto (Some key) k → (other : KeyValue) × (k ≡ Some other)
upto_some key None h = absurd h
upto_some key (Some other) h = (other, refl)

pub le_both : (a b : ℕ) → a ≤ b → b ≤ a → a ≡ b
le_both a b h k = omega arith

carried_key : (name n : List ℕ) (key : KeyValue) (k : Option KeyValue → Type 0) → k None →
    (bytes_eq n name ≡ true → k (Some key)) → k (cond (bytes_eq n name) (Some key) None)
carried_key name n key k none some = at (bytes_eq n name) (λ e. some e)
  where
    at : (t : Bool) → (t ≡ true → k (Some key)) → k (cond t (Some key) None)
    at true f = f refl
    at false f = none

-- what is known carries no greater key
pub known_key : (name : List ℕ) (v : State) (op : Operation) → knows v op ≡ true → KeyUpto (key_in name op) (v.key name)
known_key name v (Set n key) h = carried_key name n key (λ k. KeyUpto k (v.key name)) tt
    (λ e. subst (λ m. KeyUpto (Some key) (v.key m)) ((bytes_eq-Decides n name).0 e) (upto_true (Some key) (v.key n) h))
known_key name v (Count (Hits n node) number) h = tt
known_key name v (Count (Execs n key term node) number) h = carried_key name n key (λ k. KeyUpto k (v.key name)) tt
    (λ e. subst (λ m. KeyUpto (Some key) (v.key m)) ((bytes_eq-Decides n name).0 e)
    (count_known key number _ (v.key n) h).0)
known_key name v (Count (Shifts n key term from to) number) h =
    carried_key name n key (λ k. KeyUpto k (v.key name)) tt (λ e. subst (λ m. KeyUpto (Some key) (v.key m))
    ((bytes_eq-Decides n name).0 e) (count_known key number _ (v.key n) h).0)

pub at_one : (k l : Option KeyValue) (f g : KeyValue → ℕ) → k ≡ l → ((key : KeyValue) → l ≡ Some key → f key ≡ g key) →
    at_key k f ≡ at_key l g
at_one None None f g e h = refl
at_one None (Some b) f g e h = cc
at_one (Some a) None f g e h = cc
at_one (Some a) (Some b) f g e h =
    let same : a ≡ b = cc in
    ap f same ∙ h b refl

-- the name of what is known is held
known_named : (b : List Operation) (op : Operation) → holds_name op ≡ true → knows (fold b) op ≡ true →
    HoldsName (name_in op) b
unfolding fold
known_named b (Set n key) held h = key_named n b (upto_some key (key_of n b) (upto_true (Some key) (key_of n b) h))
known_named b (Count (Hits n node) number) held h = hit_named n node number b held
    (leb-true number (number_at (Hits n node) b) h)
known_named b (Count (Execs n key term node) number) held h =
    key_named n b (upto_some key (key_of n b) (count_known key number _ (key_of n b) h).0)
known_named b (Count (Shifts n key term from to) number) held h =
    key_named n b (upto_some key (key_of n b) (count_known key number _ (key_of n b) h).0)

names_unchanged : (a b : List Operation) → ((op : Operation) → IsIn op a → knows (fold b) op ≡ true) →
    names_of (a ++ b) ≡ names_of b
names_unchanged a b known = names_same (a ++ b) b
    (λ q h. ⊎_elim
    (λ m. subst (λ n. HoldsName n b) h.named (known_named b h.op h.counted (known h.op m)))
    (λ m. record { op = h.op; held = m; named = h.named; counted = h.counted })
    (IsIn-append_cases h.op a b h.held))
    (λ q h. record { op = h.op; held = IsIn-append_right h.op a b h.held; named = h.named; counted = h.counted })

pub no_change : (a b : List Operation) → changes (fold b) a ≡ false → fold (a ++ b) ≡ fold b
unfolding fold
no_change a b h =
    let known : (op : Operation) → IsIn op a → knows (fold b) op ≡ true =
    λ op m. not-false _ (any_false (λ op. not (knows (fold b) op)) a h op m) in
    let keys : (name : List ℕ) → key_of name (a ++ b) ≡ key_of name b = λ name. KeyUpto-antisym _ _
    (key_of-least name (key_of name b) (a ++ b) (λ op m. ⊎_elim (λ k. known_key name (fold b) op (known op k))
    (key_of-is_in name op b) (IsIn-append_cases op a b m)))
    (key_of-mono name b (a ++ b) (λ op. IsIn-append_right op a b)) in
    let cell : (c : Cell) → ((k : ℕ) → IsIn (Count c k) a → k ≤ number_at c b) →
    number_at c (a ++ b) ≡ number_at c b = λ c f. le_both _ _
    (number_at-least c _ (a ++ b) (λ k m. ⊎_elim (f k) (number_at-is_in c k b) (IsIn-append_cases _ a b m)))
    (number_at-least c _ b (λ k m. number_at-is_in c k (a ++ b) (IsIn-append_right _ a b m))) in
    let hits : (name : List ℕ) (node : ℕ) → number_at (Hits name node) (a ++ b) ≡ number_at (Hits name node) b =
    λ name node. cell (Hits name node) (λ k m. leb-true _ _ (known _ m)) in
    let execs : (name : List ℕ) (term node : ℕ) → (fold (a ++ b)).execs name term node ≡ (fold b).execs name term node =
    λ name term node.
    at_one (key_of name (a ++ b)) (key_of name b) (λ key. number_at (Execs name key term node) (a ++ b))
    (λ key. number_at (Execs name key term node) b) (keys name) (λ key e. cell (Execs name key term node) (λ k m.
    subst (λ x. k ≤ x) (ap (λ o. at_key o (λ l. number_at (Execs name l term node) b)) e)
    ((count_known key k _ (key_of name b) (known _ m)).1 e))) in
    let shifts : (name : List ℕ) (term from to : ℕ) → (fold (a ++ b)).shifts name term from to ≡ (fold b).shifts name
    term from to = λ name term from to.
    at_one (key_of name (a ++ b)) (key_of name b) (λ key. number_at (Shifts name key term from to) (a ++ b))
    (λ key. number_at (Shifts name key term from to) b) (keys name)
    (λ key e. cell (Shifts name key term from to) (λ k m.
    subst (λ x. k ≤ x) (ap (λ o. at_key o (λ l. number_at (Shifts name l term from to) b)) e)
    ((count_known key k _ (key_of name b) (known _ m)).1 e))) in
    λ i. record {
      names = names_unchanged a b known i;
      key = λ name. keys name i;
      hits = λ name node. hits name node i;
      execs = λ name term node. execs name term node i;
      shifts = λ name term from to. shifts name term from to i;
    }

pub is_known : (a b : List Operation) → fold (a ++ b) ≡ fold b → (op : Operation) → IsIn op a → knows (fold b) op ≡ true
unfolding fold
is_known a b e (Set name key) m =
    true_upto (Some key) (key_of name b) (subst (KeyUpto (Some key)) (ap (λ (v : State). v.key name) e)
    (subst (λ k. KeyUpto k (key_of name (a ++ b))) (own_name name key)
    (key_of-is_in name (Set name key) (a ++ b) (IsIn-append_left _ a b m))))
is_known a b e (Count (Hits name node) number) m =
    le-leb _ _ (subst (λ x. number ≤ x) (ap (λ (v : State). v.hits name node) e)
    (number_at-is_in (Hits name node) number (a ++ b) (IsIn-append_left _ a b m)))
is_known a b e (Count (Execs name key term node) number) m =
    let keys : key_of name (a ++ b) ≡ key_of name b = ap (λ (v : State). v.key name) e in
    known_count key number _ (key_of name b)
    (subst (KeyUpto (Some key)) keys (subst (λ k. KeyUpto k (key_of name (a ++ b))) (own_name name key)
    (key_of-is_in name (Count (Execs name key term node) number) (a ++ b) (IsIn-append_left _ a b m))))
    (λ here. subst (λ x. number ≤ x) (sym (ap (λ o. at_key o (λ l. number_at (Execs name l term node) (a ++ b)))
    (keys ∙ here)) ∙ ap (λ (v : State). v.execs name term node) e)
    (number_at-is_in (Execs name key term node) number (a ++ b) (IsIn-append_left _ a b m)))
is_known a b e (Count (Shifts name key term from to) number) m =
    let keys : key_of name (a ++ b) ≡ key_of name b = ap (λ (v : State). v.key name) e in
    known_count key number _ (key_of name b)
    (subst (KeyUpto (Some key)) keys (subst (λ k. KeyUpto k (key_of name (a ++ b))) (own_name name key)
    (key_of-is_in name (Count (Shifts name key term from to) number) (a ++ b) (IsIn-append_left _ a b m))))
    (λ here. subst (λ x. number ≤ x) (sym (ap (λ o. at_key o (λ l. number_at (Shifts name l term from to) (a ++ b)))
    (keys ∙ here)) ∙ ap (λ (v : State). v.shifts name term from to) e)
    (number_at-is_in (Shifts name key term from to) number (a ++ b) (IsIn-append_left _ a b m)))

pub changes_is_change : (a b : List Operation) → (changes (fold b) a ≡ false) ↔ (fold (a ++ b) ≡ fold b)
changes_is_change a b = (
  no_change a b,
  λ e. false_any (λ op. not (knows (fold b) op)) a
      (λ op m. ap not (is_known a b e op m)),
)
