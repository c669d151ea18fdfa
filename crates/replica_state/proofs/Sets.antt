-- What a fold says of a set: each cell and each key is the least bound of what the set holds.
use Rattle.std.proofs.Common.{◌≡◌, ◌≢◌, ℕ, ◌<◌, ◌≤◌, max, Bool, true, false, cond, List, [], ◌∷◌, ◌++◌, ◌⊎◌, inl, inr, refl, sym, ◌∙◌, ap, subst, arith, Option, Some, None}
use Rattle.std.proofs.lemmas.Bool.{true≢false, cases_lt}
use Rattle.stamp_register.specs.Keys.{KeyValue, key_le}
use Rattle.operations.specs.Operations.{Cell, Operation, Set, Count, IsIn, same_cell}
use Rattle.replica_state.specs.Folds.{greater, key_in_cell, key_in, key_of, number_in, number_at}
use Rattle.replica_state.proofs.Orders.{key_le-refl, key_le-trans, key_le-antisym, key_le-other, same_cell-refl, same_cell-true}

-- ---- cells

number_in-same : (c : Cell) (n : ℕ) → number_in c (Count c n) ≡ n
number_in-same c n = at (same_cell c c) (same_cell-refl c)
  where
    at : (b : Bool) → b ≡ true → cond b n 0 ≡ n
    at true e = refl
    at false e = absurd (true≢false (sym e))

-- each number of the cell is at most its greatest
pub number_at-is_in : (c : Cell) (n : ℕ) (ops : List Operation) → IsIn (Count c n) ops → n ≤ number_at c ops
number_at-is_in c n [] h = absurd h
number_at-is_in c n (op ∷ ops) (inl e) =
    let h : number_in c op ≡ n = ap (number_in c) (sym e) ∙ number_in-same c n in
    omega arith
number_at-is_in c n (op ∷ ops) (inr h) =
    let k = number_at-is_in c n ops h in
    omega arith

-- and that is the least bound
pub number_at-least : (c : Cell) (m : ℕ) (ops : List Operation) → ((n : ℕ) → IsIn (Count c n) ops → n ≤ m) →
    number_at c ops ≤ m
number_at-least c m [] h = omega arith
number_at-least c m (op ∷ ops) h =
    let rest = number_at-least c m ops (λ n k. h n (inr k)) in
    let first = one op h in
    omega arith
  where
    at : (d : Cell) (n : ℕ) → ((k : ℕ) → Count c k ≡ Count d n → k ≤ m) → (b : Bool) → same_cell d c ≡ b →
        cond b n 0 ≤ m
    at d n f true e =
        let s : d ≡ c = same_cell-true d c e in
        f n cc
    at d n f false e = omega arith

    one : (o : Operation) → ((n : ℕ) → IsIn (Count c n) (o ∷ ops) → n ≤ m) → number_in c o ≤ m
    one (Set name key) f = omega arith
    one (Count d n) f = at d n (λ k e. f k (inl e)) (same_cell d c) refl

-- a greater set has no smaller cell
pub number_at-mono : (c : Cell) (a b : List Operation) → ((n : ℕ) → IsIn (Count c n) a → IsIn (Count c n) b) →
    number_at c a ≤ number_at c b
number_at-mono c a b h = number_at-least c (number_at c b) a (λ n k. number_at-is_in c n b (h n k))

pub number_at-append : (c : Cell) (a b : List Operation) → number_at c (a ++ b) ≡ max (number_at c a) (number_at c b)
number_at-append c [] b = omega arith
number_at-append c (op ∷ a) b =
    let h = number_at-append c a b in
    omega arith

-- a number that isn't 0 is of an operation
number_is : (cell : Cell) (op : Operation) → (number_in cell op ≡ 0) ⊎ (Count cell (number_in cell op) ≡ op)
number_is cell (Set name key) = inl refl
number_is cell (Count other n) = at (same_cell other cell) refl
  where
    at : (t : Bool) → same_cell other cell ≡ t → (◌≡◌ {A = ℕ} (cond t n 0) 0) ⊎
        (Count cell (cond t n 0) ≡ Count other n)
    at true e = inr (ap (λ x. Count x n) (sym (same_cell-true other cell e)))
    at false e = inl refl

pub number_held : (cell : Cell) (ops : List Operation) → number_at cell ops ≢ 0 →
    (n : ℕ) × IsIn (Count cell n) ops × (number_at cell ops ≤ n)
number_held cell [] h = absurd (h refl)
number_held cell (op ∷ ops) h = at (number_held cell ops) (cases_lt (number_in cell op) (number_at cell ops))
    (number_is cell op)
  where
    at : (number_at cell ops ≢ 0 → (n : ℕ) × IsIn (Count cell n) ops × (number_at cell ops ≤ n)) →
        (number_in cell op < number_at cell ops) ⊎ (number_at cell ops ≤ number_in cell op)
        → (number_in cell op ≡ 0) ⊎ (Count cell (number_in cell op) ≡ op) →
        (n : ℕ) × IsIn (Count cell n) (op ∷ ops) × (max (number_in cell op) (number_at cell ops) ≤ n)
    at rest (inl less) is =
        let r = rest (λ z. absurd (omega (arith, z, less))) in
        let upto = r.2 in
        (r.0, inr r.1, omega (arith, less, upto))
    at rest (inr more) (inl z) = absurd (h (omega (arith, z, more)))
    at rest (inr more) (inr s) = (number_in cell op, inl s, omega (arith, more))

-- ---- keys

-- one key is at most another; no key is smallest
abbrev pub KeyUpto : Option KeyValue → Option KeyValue → Type 0
KeyUpto None b = Unit {0}
KeyUpto (Some a) None = ⊥
KeyUpto (Some a) (Some b) = key_le a b ≡ true

pub KeyUpto-refl : (a : Option KeyValue) → KeyUpto a a
KeyUpto-refl None = tt
KeyUpto-refl (Some a) = key_le-refl a

pub KeyUpto-trans : (a b c : Option KeyValue) → KeyUpto a b → KeyUpto b c → KeyUpto a c
KeyUpto-trans None b c h k = tt
KeyUpto-trans (Some a) None c h k = absurd h
KeyUpto-trans (Some a) (Some b) None h k = absurd k
KeyUpto-trans (Some a) (Some b) (Some c) h k = key_le-trans a b c h k

pub KeyUpto-antisym : (a b : Option KeyValue) → KeyUpto a b → KeyUpto b a → a ≡ b
KeyUpto-antisym None None h k = refl
KeyUpto-antisym None (Some b) h k = absurd k
KeyUpto-antisym (Some a) None h k = absurd h
KeyUpto-antisym (Some a) (Some b) h k = ap Some (key_le-antisym a b h k)

pub KeyUpto-same : (a b : Option KeyValue) → a ≡ b → KeyUpto a b
KeyUpto-same a b e = subst (λ c. KeyUpto a c) e (KeyUpto-refl a)

pub greater-left : (a b : Option KeyValue) → KeyUpto a (greater a b)
greater-left None b = tt
greater-left (Some a) None = key_le-refl a
greater-left (Some a) (Some b) = at (key_le a b) refl
  where
    at : (t : Bool) → key_le a b ≡ t → key_le a (cond t b a) ≡ true
    at true e = e
    at false e = key_le-refl a

pub greater-right : (a b : Option KeyValue) → KeyUpto b (greater a b)
greater-right None b = KeyUpto-refl b
greater-right (Some a) None = tt
greater-right (Some a) (Some b) = at (key_le a b) refl
  where
    at : (t : Bool) → key_le a b ≡ t → key_le b (cond t b a) ≡ true
    at true e = key_le-refl b
    at false e = key_le-other a b e

pub greater-least : (a b c : Option KeyValue) → KeyUpto a c → KeyUpto b c → KeyUpto (greater a b) c
greater-least None b c h k = k
greater-least (Some a) None c h k = h
greater-least (Some a) (Some b) None h k = absurd h
greater-least (Some a) (Some b) (Some c) h k = at (key_le a b)
  where
    at : (t : Bool) → key_le (cond t b a) c ≡ true
    at true = k
    at false = h

pub key_of-is_in : (name : List ℕ) (op : Operation) (ops : List Operation) → IsIn op ops →
    KeyUpto (key_in name op) (key_of name ops)
key_of-is_in name op [] h = absurd h
key_of-is_in name op (o ∷ ops) (inl e) =
    KeyUpto-trans (key_in name op) (key_in name o) (key_of name (o ∷ ops)) (KeyUpto-same _ _ (ap (key_in name) e))
    (greater-left (key_in name o) (key_of name ops))
key_of-is_in name op (o ∷ ops) (inr h) =
    KeyUpto-trans (key_in name op) (key_of name ops) (key_of name (o ∷ ops)) (key_of-is_in name op ops h)
    (greater-right (key_in name o) (key_of name ops))

pub key_of-least : (name : List ℕ) (k : Option KeyValue) (ops : List Operation) →
    ((op : Operation) → IsIn op ops → KeyUpto (key_in name op) k) → KeyUpto (key_of name ops) k
key_of-least name k [] h = tt
key_of-least name k (o ∷ ops) h =
    greater-least (key_in name o) (key_of name ops) k (h o (inl refl)) (key_of-least name k ops (λ op m. h op (inr m)))

pub key_of-mono : (name : List ℕ) (a b : List Operation) → ((op : Operation) → IsIn op a → IsIn op b) →
    KeyUpto (key_of name a) (key_of name b)
key_of-mono name a b h = key_of-least name (key_of name b) a (λ op m. key_of-is_in name op b (h op m))

-- the key is carried by an operation of the set
pub record Carries (name : List ℕ) (key : KeyValue) (ops : List Operation) : Type 0 where
  pub op : Operation
  pub held : IsIn op ops
  pub carries : key_in name op ≡ Some key

pub key_of-found : (name : List ℕ) (key : KeyValue) (ops : List Operation) → key_of name ops ≡ Some key →
    Carries name key ops
key_of-found name key [] h = absurd (cc)
key_of-found name key (o ∷ ops) h = at (key_in name o) (key_of name ops) (key_of-found name key ops) refl refl h
  where
    in_first : key_in name o ≡ Some key → Carries name key (o ∷ ops)
    in_first e = record { op = o; held = inl refl; carries = e }

    in_rest : Carries name key ops → Carries name key (o ∷ ops)
    in_rest r = record { op = r.op; held = inr r.held; carries = r.carries }

    which : (a b : KeyValue) (t : Bool) → (Some b ≡ Some key → Carries name key ops) → key_in name o ≡ Some a →
        Some (cond t b a) ≡ Some key → Carries name key (o ∷ ops)
    which a b true rest p e = in_rest (rest e)
    which a b false rest p e = in_first (p ∙ e)

    at : (a b : Option KeyValue) → (b ≡ Some key → Carries name key ops) → key_in name o ≡ a → key_of name ops ≡ b →
        greater a b ≡ Some key → Carries name key (o ∷ ops)
    at None b rest p q e = in_rest (rest e)
    at (Some a) None rest p q e = in_first (p ∙ e)
    at (Some a) (Some b) rest p q e = which a b (key_le a b) rest p e

-- a set has no cell of a key above its own
pub no_cell_above : (name : List ℕ) (cell : Cell) (key : KeyValue) (ops : List Operation) →
    key_in_cell name cell ≡ Some key → (KeyUpto (Some key) (key_of name ops) → ⊥) → number_at cell ops ≡ 0
no_cell_above name cell key ops carries above =
    let none : number_at cell ops ≤ 0 = number_at-least cell 0 ops (λ n m.
    absurd (above (KeyUpto-trans (Some key) (key_in name (Count cell n)) (key_of name ops)
    (KeyUpto-same _ _ (sym carries)) (key_of-is_in name (Count cell n) ops m)))) in
    omega arith
