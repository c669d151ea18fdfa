-- Sets that know the same operations come to one state, and the union comes to the least state above both.
use Rattle.std.proofs.Common.{◌≡◌, ◌≢◌, ℕ, ◌≤◌, Bool, true, false, cond, List, ◌++◌, ◌⊎◌, inl, inr, refl, sym, ◌∙◌, ap, subst, arith, ⊎_elim, Option, Some, None}
use Rattle.std.proofs.lemmas.Bool.{true≢false}
use Rattle.std.specs.Str.{bytes_eq}
use Rattle.stamp_register.specs.Keys.{KeyValue, key_le}
use Rattle.operations.specs.Operations.{Cell, Hits, Execs, Shifts, Operation, Set, Count, IsIn}
use Rattle.replica_state.specs.Folds.{fold, key_in_cell, key_in, key_of, number_at, at_key}
use Rattle.replica_state.specs.States.{State}
use Rattle.replica_state.specs.StateOrder.{IsKeyBelow, IsBelowAt, IsBelow}
use Rattle.replica_state.specs.Knowledge.{HoldsLater, HoldsKey, Knows, KnowsAll}
use Rattle.replica_state.proofs.Names.{names_known}
use Rattle.replica_state.proofs.Orders.{key_le-refl, key_le-antisym, bytes_eq-refl, bytes_eq-true}
use Rattle.replica_state.proofs.Sets.{number_at-is_in, number_at-least, number_at-mono, number_at-append, KeyUpto, KeyUpto-trans, KeyUpto-antisym, KeyUpto-same, key_of-is_in, key_of-least, key_of-mono, no_cell_above}
use Rattle.operations.proofs.Members.{IsIn-append_left, IsIn-append_right, IsIn-append_cases}

-- the cells of one kind: one for each key, which carries it for the name
pub record Kind (name : List ℕ) : Type 0 where
  pub cell : KeyValue → Cell
  pub carries : (key : KeyValue) → key_in_cell name (cell key) ≡ Some key

pub own_name : (name : List ℕ) (key : KeyValue) → cond (bytes_eq name name) (Some key) None ≡ Some key
own_name name key = at (bytes_eq name name) (bytes_eq-refl name)
  where
    at : (b : Bool) → b ≡ true → cond b (Some key) None ≡ Some key
    at true e = refl
    at false e = absurd (true≢false (sym e))

unfoldable pub exec_kind : (name : List ℕ) (term node : ℕ) → Kind name
exec_kind name term node = record { cell = λ key. Execs name key term node; carries = λ key. own_name name key }

unfoldable pub shift_kind : (name : List ℕ) (term from to : ℕ) → Kind name
shift_kind name term from to = record { cell = λ key. Shifts name key term from to; carries = λ key. own_name name key }

abbrev pub value_of : {name : List ℕ} → Kind name → List Operation → ℕ
value_of {name} kind ops = at_key (key_of name ops) (λ key. number_at (kind.cell key) ops)

-- what is known is not above the key of the set
later_key : (name : List ℕ) (cell : Cell) (number : ℕ) (ops : List Operation) → HoldsLater ops cell number →
    KeyUpto (key_in_cell name cell) (key_of name ops)
later_key name cell number ops h = key_of-is_in name (Count cell h.later) ops h.held

held_key : (name : List ℕ) (ops : List Operation) (test : KeyValue → Type 0) (h : HoldsKey ops name test) →
    KeyUpto (Some h.key) (key_of name ops)
held_key name ops test h =
    KeyUpto-trans (Some h.key) (key_in name h.op) (key_of name ops) (KeyUpto-same _ _ (sym h.carries))
    (key_of-is_in name h.op ops h.held)

greater_key : (name n : List ℕ) (key : KeyValue) (ops : List Operation) (test : KeyValue → Type 0) →
    ((other : KeyValue) → test other → key_le key other ≡ true) → HoldsKey ops n test →
    KeyUpto (cond (bytes_eq n name) (Some key) None) (key_of name ops)
greater_key name n key ops test upto h = at (bytes_eq n name) (λ e. bytes_eq-true n name e)
  where
    at : (b : Bool) → (b ≡ true → n ≡ name) → KeyUpto (cond b (Some key) None) (key_of name ops)
    at false f = tt
    at true f =
        let same = f refl in
        KeyUpto-trans (Some key) (Some h.key) (key_of name ops) (upto h.key h.passes)
        (subst (λ m. KeyUpto (Some h.key) (key_of m ops)) same (held_key n ops test h))

pub known_key : (name : List ℕ) (ops : List Operation) (op : Operation) → Knows ops op →
    KeyUpto (key_in name op) (key_of name ops)
known_key name ops (Set n key) h = greater_key name n key ops _ (λ other t. t) h
known_key name ops (Count (Hits n node) number) h = tt
known_key name ops (Count (Execs n key term node) number) (inl h) = later_key name (Execs n key term node) number ops h
known_key name ops (Count (Execs n key term node) number) (inr h) = greater_key name n key ops _ (λ other t. t.0) h
known_key name ops (Count (Shifts n key term from to) number) (inl h) =
    later_key name (Shifts n key term from to) number ops h
known_key name ops (Count (Shifts n key term from to) number) (inr h) = greater_key name n key ops _ (λ other t. t.0) h

known_keys : (name : List ℕ) (a b : List Operation) → KnowsAll a b → KeyUpto (key_of name b) (key_of name a)
known_keys name a b h = key_of-least name (key_of name a) b (λ op m. known_key name a op (h op m))

pub later_at : (cell : Cell) (number : ℕ) (ops : List Operation) → HoldsLater ops cell number →
    number ≤ number_at cell ops
later_at cell number ops h =
    let k = number_at-is_in cell h.later ops h.held in
    let l = h.at_least in
    omega arith

-- a count of the set's own key is known by a later one
pub no_greater : (name : List ℕ) (key : KeyValue) (ops : List Operation) → key_of name ops ≡ Some key →
    HoldsKey ops name (λ other. (key_le key other ≡ true) × (key ≢ other)) → ⊥
no_greater name key ops e h =
    let upto : key_le h.key key ≡ true = subst (KeyUpto (Some h.key)) e (held_key name ops _ h) in
    h.passes.1 (key_le-antisym key h.key h.passes.0 upto)

known_execs : (name : List ℕ) (key : KeyValue) (term node : ℕ) (a b : List Operation) → KnowsAll a b →
    key_of name a ≡ Some key → number_at (Execs name key term node) b ≤ number_at (Execs name key term node) a
known_execs name key term node a b h e =
    number_at-least (Execs name key term node) _ b (λ n m. ⊎_elim (later_at (Execs name key term node) n a)
    (λ k. absurd (no_greater name key a e k)) (h _ m))

known_shifts : (name : List ℕ) (key : KeyValue) (term from to : ℕ) (a b : List Operation) → KnowsAll a b →
    key_of name a ≡ Some key → number_at (Shifts name key term from to) b ≤ number_at (Shifts name key term from to) a
known_shifts name key term from to a b h e =
    number_at-least (Shifts name key term from to) _ b (λ n m. ⊎_elim (later_at (Shifts name key term from to) n a)
    (λ k. absurd (no_greater name key a e k)) (h _ m))

known_hits : (name : List ℕ) (node : ℕ) (a b : List Operation) → KnowsAll a b →
    number_at (Hits name node) b ≤ number_at (Hits name node) a
known_hits name node a b h = number_at-least (Hits name node) _ b (λ n m. later_at (Hits name node) n a (h _ m))

at_key-same : (k l : Option KeyValue) (f g : KeyValue → ℕ) → k ≡ l →
    ((key : KeyValue) → k ≡ Some key → l ≡ Some key → f key ≡ g key) → at_key k f ≡ at_key l g
at_key-same None None f g e h = refl
at_key-same None (Some b) f g e h = cc
at_key-same (Some a) None f g e h = cc
at_key-same (Some a) (Some b) f g e h =
    let same : a ≡ b = cc in
    h a refl (sym e) ∙ ap g same

le_antisym : (a b : ℕ) → a ≤ b → b ≤ a → a ≡ b
le_antisym a b h k = omega arith

same_keys : (name : List ℕ) (a b : List Operation) → KnowsAll a b → KnowsAll b a → key_of name a ≡ key_of name b
same_keys name a b h k = KeyUpto-antisym _ _ (known_keys name b a k) (known_keys name a b h)

pub same_fold : (a b : List Operation) → KnowsAll a b → KnowsAll b a → fold a ≡ fold b
unfolding fold
same_fold a b h k =
    let hits : (name : List ℕ) (node : ℕ) → (fold a).hits name node ≡ (fold b).hits name node =
    λ name node. le_antisym _ _ (known_hits name node b a k) (known_hits name node a b h) in
    let execs : (name : List ℕ) (term node : ℕ) → (fold a).execs name term node ≡ (fold b).execs name term node =
    λ name term node. at_key-same _ _ _ _ (same_keys name a b h k) (λ key e f.
    le_antisym _ _ (known_execs name key term node b a k f) (known_execs name key term node a b h e)) in
    let shifts : (name : List ℕ) (term from to : ℕ) → (fold a).shifts name term from to ≡ (fold b).shifts name term from
    to =
    λ name term from to. at_key-same _ _ _ _ (same_keys name a b h k) (λ key e f.
    le_antisym _ _ (known_shifts name key term from to b a k f) (known_shifts name key term from to a b h e)) in
    λ i. record {
      names = names_known a b h k i;
      key = λ name. same_keys name a b h k i;
      hits = λ name node. hits name node i;
      execs = λ name term node. execs name term node i;
      shifts = λ name term from to. shifts name term from to i;
    }

-- ---- the order of states

-- a key at most another is below it or equal to it
pub upto_cases : (a b : Option KeyValue) → KeyUpto a b → IsKeyBelow a b ⊎ (a ≡ b)
upto_cases None None h = inr refl
upto_cases None (Some b) h = inl tt
upto_cases (Some a) None h = absurd h
upto_cases (Some a) (Some b) h = at (key_le b a) refl
  where
    at : (t : Bool) → key_le b a ≡ t → IsKeyBelow (Some a) (Some b) ⊎ (Some a ≡ Some b)
    at true e = inr (ap Some (key_le-antisym a b h e))
    at false e = inl (h, λ s. true≢false (sym (subst (λ k. key_le b k ≡ true) (sym s) (key_le-refl b)) ∙ e))

below_upto : (a b : Option KeyValue) → IsKeyBelow a b ⊎ (a ≡ b) → KeyUpto a b
below_upto a b (inr e) = KeyUpto-same a b e
below_upto None b (inl h) = tt
below_upto (Some a) None (inl h) = absurd h
below_upto (Some a) (Some b) (inl h) = h.0

-- a key below another is not above it
pub below_not_above : (a b : Option KeyValue) → IsKeyBelow a b → KeyUpto b a → ⊥
below_not_above None None h k = h
below_not_above None (Some b) h k = k
below_not_above (Some a) None h k = h
below_not_above (Some a) (Some b) h k = h.1 (key_le-antisym a b h.0 k)

at_key-le : (k l : Option KeyValue) (f g : KeyValue → ℕ) → k ≡ l → ((key : KeyValue) → l ≡ Some key → f key ≤ g key) →
    at_key k f ≤ at_key l g
at_key-le None None f g e h = omega arith
at_key-le None (Some b) f g e h = omega arith
at_key-le (Some a) None f g e h = absurd (cc)
at_key-le (Some a) (Some b) f g e h =
    let same : a ≡ b = cc in
    let at_b = h b refl in
    let moved : f a ≡ f b = ap f same in
    omega arith

below_more : (a b : List Operation) → ((op : Operation) → IsIn op a → IsIn op b) → IsBelow (fold a) (fold b)
unfolding fold
below_more a b h name =
    record {
      hits = λ node. number_at-mono (Hits name node) a b (λ n. h _);
      cells = ⊎_elim (λ k. inl k) (λ e. inr (
        e,
        λ term node. at_key-le _ _ _ _ e (λ key f. number_at-mono (Execs name key term node) a b (λ n. h _)),
        λ term from to. at_key-le _ _ _ _ e (λ key f. number_at-mono (Shifts name key term from to) a b (λ n. h _)),
      ))
          (upto_cases (key_of name a) (key_of name b) (key_of-mono name a b h));
    }

-- where c's key is the key, a's cells of it are at most c's
kind_below : (name : List ℕ) (kind : Kind name) (key : KeyValue) (a c : List Operation) → key_of name c ≡ Some key →
    IsKeyBelow (key_of name a) (key_of name c) ⊎ ((key_of name a ≡ key_of name c) ×
    (value_of kind a ≤ value_of kind c)) → number_at (kind.cell key) a ≤ number_at (kind.cell key) c
kind_below name kind key a c e (inl h) =
    let none : number_at (kind.cell key) a ≡ 0 = no_cell_above name (kind.cell key) key a (kind.carries key)
    (λ k. below_not_above _ _ h (KeyUpto-trans (key_of name c) (Some key) (key_of name a) (KeyUpto-same _ _ e) k)) in
    omega arith
kind_below name kind key a c e (inr h) =
    let left : at_key (key_of name a) (λ k. number_at (kind.cell k) a) ≡ number_at (kind.cell key) a =
    ap (λ k. at_key k (λ k. number_at (kind.cell k) a)) (h.0 ∙ e) in
    let right : at_key (key_of name c) (λ k. number_at (kind.cell k) c) ≡ number_at (kind.cell key) c =
    ap (λ k. at_key k (λ k. number_at (kind.cell k) c)) e in
    let le = h.1 in
    omega arith

append_le : (cell : Cell) (a b : List Operation) (m : ℕ) → number_at cell a ≤ m → number_at cell b ≤ m →
    number_at cell (a ++ b) ≤ m
append_le cell a b m h k =
    let e = number_at-append cell a b in
    omega arith

pub key_of-append_le : (name : List ℕ) (a b : List Operation) (k : Option KeyValue) → KeyUpto (key_of name a) k →
    KeyUpto (key_of name b) k → KeyUpto (key_of name (a ++ b)) k
key_of-append_le name a b k h l = key_of-least name k (a ++ b) (λ op m. ⊎_elim
    (λ i. KeyUpto-trans (key_in name op) (key_of name a) k (key_of-is_in name op a i) h)
    (λ i. KeyUpto-trans (key_in name op) (key_of name b) k (key_of-is_in name op b i) l)
    (IsIn-append_cases op a b m))

only_execs : (name : List ℕ) (term node : ℕ) (v w : State) → IsBelowAt v w name →
    IsKeyBelow (v.key name) (w.key name) ⊎ ((v.key name ≡ w.key name) ×
    (v.execs name term node ≤ w.execs name term node))
only_execs name term node v w h = ⊎_elim (λ k. inl k) (λ k. inr (k.0, k.1 term node)) h.cells

only_shifts : (name : List ℕ) (term from to : ℕ) (v w : State) → IsBelowAt v w name →
    IsKeyBelow (v.key name) (w.key name) ⊎ ((v.key name ≡ w.key name) ×
    (v.shifts name term from to ≤ w.shifts name term from to))
only_shifts name term from to v w h = ⊎_elim (λ k. inl k) (λ k. inr (k.0, k.2 term from to)) h.cells

pub keys_only : (name : List ℕ) (v w : State) → IsBelowAt v w name → KeyUpto (v.key name) (w.key name)
keys_only name v w h = below_upto _ _ (⊎_elim (λ k. inl k) (λ k. inr k.0) h.cells)

pub union_least : (a b c : List Operation) → IsBelow (fold a) (fold c) → IsBelow (fold b) (fold c) →
    IsBelow (fold (a ++ b)) (fold c)
unfolding exec_kind shift_kind fold
union_least a b c h k name =
    record {
      hits = λ node. append_le (Hits name node) a b _ ((h name).hits node) ((k name).hits node);
      cells = ⊎_elim (λ l. inl l) (λ e. inr (
        e,
        λ term node. at_key-le _ _ _ _ e (λ key f. append_le (Execs name key term node) a b _
            (kind_below name (exec_kind name term node) key a c f
            (only_execs name term node (fold a) (fold c) (h name)))
            (kind_below name (exec_kind name term node) key b c f
            (only_execs name term node (fold b) (fold c) (k name)))),
        λ term from to. at_key-le _ _ _ _ e (λ key f. append_le (Shifts name key term from to) a b _
            (kind_below name (shift_kind name term from to) key a c f
            (only_shifts name term from to (fold a) (fold c) (h name)))
            (kind_below name (shift_kind name term from to) key b c f
            (only_shifts name term from to (fold b) (fold c) (k name)))),
      ))
          (upto_cases (key_of name (a ++ b)) (key_of name c)
          (key_of-append_le name a b (key_of name c) (keys_only name (fold a) (fold c) (h name))
          (keys_only name (fold b) (fold c) (k name))));
    }

pub union_above_left : (a b : List Operation) → IsBelow (fold a) (fold (a ++ b))
union_above_left a b = below_more a (a ++ b) (λ op. IsIn-append_left op a b)

pub union_above_right : (a b : List Operation) → IsBelow (fold b) (fold (a ++ b))
union_above_right a b = below_more b (a ++ b) (λ op. IsIn-append_right op a b)

-- ---- sets with the same members

pub knows_member : (op : Operation) (ops : List Operation) → IsIn op ops → Knows ops op
knows_member (Set name key) ops h = record {
  key = key;
  op = Set name key;
  held = h;
  carries = own_name name key;
  passes = key_le-refl key;
}
knows_member (Count (Hits name node) n) ops h = record { later = n; at_least = omega arith; held = h }
knows_member (Count (Execs name key term node) n) ops h = inl (record { later = n; at_least = omega arith; held = h })
knows_member (Count (Shifts name key term from to) n) ops h =
    inl (record { later = n; at_least = omega arith; held = h })

pub same_members : (a b : List Operation) → ((op : Operation) → IsIn op a → IsIn op b) →
    ((op : Operation) → IsIn op b → IsIn op a) → fold a ≡ fold b
same_members a b h k = same_fold a b (λ op m. knows_member op a (k op m)) (λ op m. knows_member op b (h op m))
