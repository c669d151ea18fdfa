-- The state of a union depends on the states of its parts alone.
use Rattle.std.proofs.Common.{◌≡◌, ℕ, max, if◌then◌else◌, Bool, true, false, cond, List, ◌++◌, ◌⊎◌, inl, inr, refl, sym, ◌∙◌, ap, subst, ⊎_elim, Option, Some, None}
use Rattle.std.proofs.lemmas.Bool.{true≢false}
use Rattle.stamp_register.specs.Keys.{KeyValue, same_key}
use Rattle.operations.specs.Operations.{Hits, Operation, IsIn}
use Rattle.replica_state.specs.States.{State}
use Rattle.replica_state.specs.Folds.{fold, greater, key_of, number_at, at_key, names_of}
use Rattle.replica_state.proofs.Orders.{key_le-antisym, same_key-true, same_key-refl}
use Rattle.replica_state.proofs.Sets.{number_at-append, KeyUpto, KeyUpto-antisym, greater-left, greater-right, greater-least, key_of-mono, no_cell_above}
use Rattle.operations.proofs.Members.{IsIn-append_left, IsIn-append_right, IsIn-append_cases}
use Rattle.replica_state.proofs.KnownSets.{Kind, exec_kind, shift_kind, value_of, key_of-append_le}
use Rattle.replica_state.proofs.Names.{HoldsName, names_of-holds, holds-names_of, names_same}

-- a number under the greater of two keys
abbrev pub under : Option KeyValue → Option KeyValue → ℕ → ℕ
under None here number = 0
under (Some key) None number = 0
under (Some key) (Some other) number = if same_key other key then number else 0

-- of two numbers under keys of their own, what the greater key has
abbrev pub joined_number : Option KeyValue → Option KeyValue → ℕ → ℕ → ℕ
joined_number k l m n = max (under (greater k l) k m) (under (greater k l) l n)

pub key_of-append : (name : List ℕ) (a b : List Operation) →
    key_of name (a ++ b) ≡ greater (key_of name a) (key_of name b)
key_of-append name a b = KeyUpto-antisym _ _
    (key_of-append_le name a b _ (greater-left (key_of name a) (key_of name b))
    (greater-right (key_of name a) (key_of name b)))
    (greater-least _ _ _ (key_of-mono name a (a ++ b) (λ op. IsIn-append_left op a b))
    (key_of-mono name b (a ++ b) (λ op. IsIn-append_right op a b)))

-- the cell of a key that is not below the set's
cell_under : (name : List ℕ) (kind : Kind name) (key : KeyValue) (ops : List Operation) →
    KeyUpto (key_of name ops) (Some key) → number_at (kind.cell key) ops ≡ under (Some key) (key_of name ops)
    (value_of kind ops)
cell_under name kind key ops upto = at (key_of name ops) refl
  where
    none : (KeyUpto (Some key) (key_of name ops) → ⊥) → number_at (kind.cell key) ops ≡ 0
    none = no_cell_above name (kind.cell key) key ops (kind.carries key)

    one : (other : KeyValue) (t : Bool) → key_of name ops ≡ Some other → same_key other key ≡ t →
        number_at (kind.cell key) ops ≡ cond t (number_at (kind.cell other) ops) 0
    one other true e f = ap (λ k. number_at (kind.cell k) ops) (sym (same_key-true other key f))
    one other false e f = none (λ h.
        let there : KeyUpto (Some key) (Some other) = subst (KeyUpto (Some key)) e h in
        let here : KeyUpto (Some other) (Some key) = subst (λ k. KeyUpto k (Some key)) e upto in
        let same : other ≡ key = key_le-antisym other key here there in
        true≢false (sym (subst (λ k. same_key other k ≡ true) same (same_key-refl other)) ∙ f))

    at : (k : Option KeyValue) → key_of name ops ≡ k → number_at (kind.cell key) ops ≡ under (Some key) k
        (at_key k (λ l. number_at (kind.cell l) ops))
    at None e = none (λ h. subst (KeyUpto (Some key)) e h)
    at (Some other) e = one other (same_key other key) e refl

pub kind-append : (name : List ℕ) (kind : Kind name) (a b : List Operation) →
    value_of kind (a ++ b) ≡ joined_number (key_of name a) (key_of name b) (value_of kind a) (value_of kind b)
kind-append name kind a b = ap (λ k. at_key k (λ key. number_at (kind.cell key) (a ++ b))) (key_of-append name a b) ∙
    at (greater (key_of name a) (key_of name b)) (greater-left (key_of name a) (key_of name b))
    (greater-right (key_of name a) (key_of name b))
  where
    at : (k : Option KeyValue) → KeyUpto (key_of name a) k → KeyUpto (key_of name b) k →
        at_key k (λ key. number_at (kind.cell key) (a ++ b)) ≡ max (under k (key_of name a) (value_of kind a))
        (under k (key_of name b) (value_of kind b))
    at None h l = refl
    at (Some key) h l = number_at-append (kind.cell key) a b ∙
        (λ i. max (cell_under name kind key a h i) (cell_under name kind key b l i))

-- ---- the names of a union

pub holds_append : (q : List ℕ) (a b : List Operation) → HoldsName q (a ++ b) →
    IsIn q (names_of a) ⊎ IsIn q (names_of b)
holds_append q a b h = ⊎_elim
    (λ k. inl (subst (λ n. IsIn n (names_of a)) h.named (holds-names_of a h.op k h.counted)))
    (λ k. inr (subst (λ n. IsIn n (names_of b)) h.named (holds-names_of b h.op k h.counted)))
    (IsIn-append_cases h.op a b h.held)

pub in_left : (q : List ℕ) (a b : List Operation) → IsIn q (names_of a) → HoldsName q (a ++ b)
in_left q a b h = let r = names_of-holds q a h in record {
  op = r.op;
  held = IsIn-append_left r.op a b r.held;
  named =
      r.named;
  counted = r.counted;
}

pub in_right : (q : List ℕ) (a b : List Operation) → IsIn q (names_of b) → HoldsName q (a ++ b)
in_right q a b h = let r = names_of-holds q b h in record {
  op = r.op;
  held = IsIn-append_right r.op a b r.held;
  named =
      r.named;
  counted = r.counted;
}

names_union : (a b c d : List Operation) → names_of a ≡ names_of c → names_of b ≡ names_of d →
    names_of (a ++ b) ≡ names_of (c ++ d)
names_union a b c d e f = names_same (a ++ b) (c ++ d) (moved a b c d e f) (moved c d a b (sym e) (sym f))
  where
    moved : (a b c d : List Operation) → names_of a ≡ names_of c → names_of b ≡ names_of d → (q : List ℕ) →
        HoldsName q (a ++ b) → HoldsName q (c ++ d)
    moved a b c d e f q h = ⊎_elim (λ k. in_left q c d (subst (IsIn q) e k)) (λ k. in_right q c d (subst (IsIn q) f k))
        (holds_append q a b h)

-- ---- the state of a union

pub fold-union : (a b c d : List Operation) → fold a ≡ fold c → fold b ≡ fold d → fold (a ++ b) ≡ fold (c ++ d)
unfolding fold exec_kind shift_kind
fold-union a b c d e f =
    let keys : (name : List ℕ) → key_of name (a ++ b) ≡ key_of name (c ++ d) = λ name.
    key_of-append name a b ∙ (λ i. greater ((e i).key name) ((f i).key name)) ∙ sym (key_of-append name c d) in
    let hits : (name : List ℕ) (node : ℕ) → number_at (Hits name node) (a ++ b) ≡ number_at (Hits name node) (c ++ d) =
    λ name node.
    number_at-append (Hits name node) a b ∙ (λ i. max ((e i).hits name node) ((f i).hits name node)) ∙
    sym (number_at-append (Hits name node) c d) in
    let execs : (name : List ℕ) (term node : ℕ) → (fold (a ++ b)).execs name term node ≡ (fold (c ++ d)).execs name term
    node = λ name term node.
    kind-append name (exec_kind name term node) a b ∙ (λ i. joined_number ((e i).key name) ((f i).key name)
    ((e i).execs name term node) ((f i).execs name term node)) ∙
    sym (kind-append name (exec_kind name term node) c d) in
    let shifts : (name : List ℕ) (term from to : ℕ) → (fold (a ++ b)).shifts name term from to ≡ (fold (c ++ d)).shifts
    name term from to = λ name term from to.
    kind-append name (shift_kind name term from to) a b ∙ (λ i. joined_number ((e i).key name) ((f i).key name)
    ((e i).shifts name term from to) ((f i).shifts name term from to)) ∙
    sym (kind-append name (shift_kind name term from to) c d) in
    let named = names_union a b c d (ap (λ (v : State). v.names) e) (ap (λ (v : State). v.names) f) in
    λ i. record {
      names = named i;
      key = λ name. keys name i;
      hits = λ name node. hits name node i;
      execs = λ name term node. execs name term node i;
      shifts = λ name term from to. shifts name term from to i;
    }
