-- What one operation more makes of the state of a set: a hit, an execution under the key, a fresh key.
use Rattle.std.proofs.Common.{◌≡◌, ℕ, ◌+◌, ◌<◌, ◌≤◌, max, Bool, true, false, cond, ◌&&◌, eqb, nat_lt, List, [], ◌∷◌, Option, Some, None, refl, sym, ◌∙◌, ap, subst, arith}
use Rattle.std.proofs.lemmas.Bool.{ne_eqb, eqb-true}
use Rattle.std.specs.Str.{bytes_eq}
use Rattle.std.proofs.lemmas.Slice.Eq.{bytes_eq-Decides}
use Rattle.std.proofs.lemmas.Bool.Decides.{nat_tests}
use Rattle.stamp_register.specs.Keys.{KeyValue, key_le, same_key, key_rank}
use Rattle.operations.specs.Operations.{Hits, Execs, Shifts, Operation, Set, Count, same_cell}
use Rattle.replica_state.specs.Folds.{fold, names_of, greater, key_of, number_at, at_key, clock_of}
use Rattle.replica_state.specs.Knowledge.{is_upto}
use Rattle.replica_state.specs.States.{with_name, with_hits, with_execs, with_shifts, with_key}

pub max_zero : (n : ℕ) → max 0 n ≡ n
max_zero n = omega arith

same_bytes : (xs : List ℕ) → bytes_eq xs xs ≡ true
same_bytes xs = (bytes_eq-Decides xs xs).1 refl

-- the greater of a cell's number and what is below it
above : (t : Bool) (n m : ℕ) → (t ≡ true → m ≤ n) → max (cond t n 0) m ≡ cond t n m
above true n m h = let low : m ≤ n = h refl in omega arith
above false n m h = omega arith

-- a name that is held already adds none
pub either_way : {names more : List (List ℕ)} → more ≡ names → (b : Bool) → cond b more names ≡ names
either_way same true = same
either_way same false = refl

-- a count leaves the keys
pub fold_hits : (name : List ℕ) (i : ℕ) (ops : List Operation) → with_name name (names_of ops) ≡ names_of ops →
    fold (Count (Hits name i) (number_at (Hits name i) ops + 1) ∷ ops) ≡ with_hits name i
    (number_at (Hits name i) ops + 1) (fold ops)
unfolding fold with_hits same_cell
fold_hits name i ops kept = λ x. record {
  names = either_way kept (nat_lt 0 (number_at (Hits name i) ops + 1)) x;
  key = λ q. key_of q ops;
  hits = λ q j. cells q j x;
  execs = λ q t j. at_key (key_of q ops) (λ key. max_zero (number_at (Execs q key t j) ops) x);
  shifts = λ q t m j. at_key (key_of q ops) (λ key. max_zero (number_at (Shifts q key t m j) ops) x);
}
  where
    cells : (q : List ℕ) (j : ℕ) → max (cond (bytes_eq name q && eqb i j) (number_at (Hits name i) ops + 1) 0)
        (number_at (Hits q j) ops) ≡ cond (bytes_eq name q && eqb i j) (number_at (Hits name i) ops + 1)
        (number_at (Hits q j) ops)
    cells q j = above (bytes_eq name q && eqb i j) (number_at (Hits name i) ops + 1) (number_at (Hits q j) ops)
        (λ h. low (bytes_eq name q) (eqb i j) refl refl h)
      where
        low : (a b : Bool) → bytes_eq name q ≡ a → eqb i j ≡ b → a && b ≡ true →
            number_at (Hits q j) ops ≤ number_at (Hits name i) ops + 1
        low true true e f h = subst (λ (n : List ℕ). number_at (Hits n j) ops ≤ number_at (Hits name i) ops + 1)
            ((bytes_eq-Decides name q).0 e) (subst (λ (k : ℕ). number_at (Hits name k) ops ≤ number_at (Hits name i)
            ops + 1) (eqb-true i j f) (omega arith))
        low true false e f h = cc
        low false b e f h = cc

module _ (name : List ℕ) (key : KeyValue) (ops : List Operation) (here : key_of name ops ≡ Some key) where
  -- the keys are as they were
  pub same_keys : (q : List ℕ) → greater (cond (bytes_eq name q) (Some key) None) (key_of q ops) ≡ key_of q ops
  same_keys q = by_test (bytes_eq name q) refl
    where
      either : (b : Bool) → cond b key key ≡ key
      either true = refl
      either false = refl

      by_test : (b : Bool) → bytes_eq name q ≡ b → greater (cond b (Some key) None) (key_of q ops) ≡ key_of q ops
      by_test true e = let at : key_of q ops ≡ Some key = subst (λ (n : List ℕ). key_of n ops ≡ Some key)
          ((bytes_eq-Decides name q).0 e) here in rw at (ap (λ k. Some k) (either (key_le key key)))
      by_test false e = refl

  -- the execution cells after one execution more
  pub execs_cells : (k i x : ℕ) → x ≡ number_at (Execs name key k i) ops → (q : List ℕ) (t j : ℕ) →
      at_key (greater (cond (bytes_eq name q) (Some key) None) (key_of q ops))
      (λ key'. max (cond (bytes_eq name q && (same_key key key' && (eqb k t && eqb i j))) (x + 1) 0)
      (number_at (Execs q key' t j) ops)) ≡ cond (bytes_eq name q && (eqb k t && eqb i j)) (x + 1)
      (at_key (key_of q ops) (λ key'. number_at (Execs q key' t j) ops))
  execs_cells k i x ex q t j = by_test (bytes_eq name q) refl
    where
      low : (a b : Bool) → eqb k t ≡ a → eqb i j ≡ b → name ≡ q → a && b ≡ true →
          number_at (Execs q key t j) ops ≤ x + 1
      low true true e f same h = subst (λ (n : List ℕ). number_at (Execs n key t j) ops ≤ x + 1) same
          (subst (λ (a : ℕ). number_at (Execs name key a j) ops ≤ x + 1) (eqb-true k t e)
          (subst (λ (b : ℕ). number_at (Execs name key k b) ops ≤ x + 1) (eqb-true i j f) (omega (arith, ex))))
      low true false e f same h = cc
      low false b e f same h = cc

      either : (b : Bool) → cond b key key ≡ key
      either true = refl
      either false = refl

      by_test : (b : Bool) → bytes_eq name q ≡ b → at_key (greater (cond b (Some key) None) (key_of q ops))
          (λ key'. max (cond (b && (same_key key key' && (eqb k t && eqb i j))) (x + 1) 0)
          (number_at (Execs q key' t j) ops)) ≡ cond (b && (eqb k t && eqb i j)) (x + 1)
          (at_key (key_of q ops) (λ key'. number_at (Execs q key' t j) ops))
      by_test false e = λ p. at_key (key_of q ops) (λ key'. max_zero (number_at (Execs q key' t j) ops) p)
      by_test true e =
          let same : name ≡ q = (bytes_eq-Decides name q).0 e in
          let keys : key_of q ops ≡ Some key = subst (λ (n : List ℕ). key_of n ops ≡ Some key) same here in
          let top : greater (Some key) (key_of q ops) ≡ Some key =
          ap (λ (o : Option KeyValue). greater (Some key) o) keys ∙
          ap (λ (a : KeyValue). Some a) (either (key_le key key)) in
          ap (λ (o : Option KeyValue). at_key o (λ key'. max
          (cond (same_key key key' && (eqb k t && eqb i j)) (x + 1) 0) (number_at (Execs q key' t j) ops))) top ∙
          ap (λ (r : Bool). max (cond (r && (eqb k t && eqb i j)) (x + 1) 0) (number_at (Execs q key t j) ops))
          (same_bytes (key_rank key)) ∙
          above (eqb k t && eqb i j) (x + 1) (number_at (Execs q key t j) ops)
          (low (eqb k t) (eqb i j) refl refl same) ∙
          ap (λ (o : Option KeyValue). cond (eqb k t && eqb i j) (x + 1)
          (at_key o (λ key'. number_at (Execs q key' t j) ops))) (sym keys)

  pub fold_execs : (k i x : ℕ) → x ≡ number_at (Execs name key k i) ops → with_name name (names_of ops) ≡ names_of ops →
      fold (Count (Execs name key k i) (x + 1) ∷ ops) ≡ with_execs name k i (x + 1) (fold ops)
  unfolding fold with_execs same_cell
  fold_execs k i x ex kept = λ p. record {
    names = kept p;
    key = λ q. same_keys q p;
    hits = λ q j. max_zero (number_at (Hits q j) ops) p;
    execs = λ q t j. execs_cells k i x ex q t j p;
    shifts = λ q t m j. at_key (same_keys q p) (λ key'. max_zero (number_at (Shifts q key' t m j) ops) p);
  }

  -- the shift cells after a shift of no less in all
  pub shifts_cells : (k i o total : ℕ) → number_at (Shifts name key k i o) ops ≤ total → (q : List ℕ) (t m j : ℕ) →
      at_key (greater (cond (bytes_eq name q) (Some key) None) (key_of q ops))
      (λ key'. max (cond (bytes_eq name q && (same_key key key' && (eqb k t && (eqb i m && eqb o j)))) total 0)
      (number_at (Shifts q key' t m j) ops)) ≡ cond (bytes_eq name q && (eqb k t && (eqb i m && eqb o j))) total
      (at_key (key_of q ops) (λ key'. number_at (Shifts q key' t m j) ops))
  shifts_cells k i o total upto q t m j = by_test (bytes_eq name q) refl
    where
      low : (a b c : Bool) → eqb k t ≡ a → eqb i m ≡ b → eqb o j ≡ c → name ≡ q → a && (b && c) ≡ true →
          number_at (Shifts q key t m j) ops ≤ total
      low true true true e f g same h = subst (λ (n : List ℕ). number_at (Shifts n key t m j) ops ≤ total) same
          (subst (λ (a : ℕ). number_at (Shifts name key a m j) ops ≤ total) (eqb-true k t e)
          (subst (λ (b : ℕ). number_at (Shifts name key k b j) ops ≤ total) (eqb-true i m f)
          (subst (λ (c : ℕ). number_at (Shifts name key k i c) ops ≤ total) (eqb-true o j g) upto)))
      low true true false e f g same h = cc
      low true false c e f g same h = cc
      low false b c e f g same h = cc

      either : (b : Bool) → cond b key key ≡ key
      either true = refl
      either false = refl

      by_test : (b : Bool) → bytes_eq name q ≡ b → at_key (greater (cond b (Some key) None) (key_of q ops))
          (λ key'. max (cond (b && (same_key key key' && (eqb k t && (eqb i m && eqb o j)))) total 0)
          (number_at (Shifts q key' t m j) ops)) ≡ cond (b && (eqb k t && (eqb i m && eqb o j))) total
          (at_key (key_of q ops) (λ key'. number_at (Shifts q key' t m j) ops))
      by_test false e = λ p. at_key (key_of q ops) (λ key'. max_zero (number_at (Shifts q key' t m j) ops) p)
      by_test true e =
          let same : name ≡ q = (bytes_eq-Decides name q).0 e in
          let keys : key_of q ops ≡ Some key = subst (λ (n : List ℕ). key_of n ops ≡ Some key) same here in
          let top : greater (Some key) (key_of q ops) ≡ Some key =
          ap (λ (o : Option KeyValue). greater (Some key) o) keys ∙
          ap (λ (a : KeyValue). Some a) (either (key_le key key)) in
          ap (λ (h : Option KeyValue). at_key h (λ key'. max
          (cond (same_key key key' && (eqb k t && (eqb i m && eqb o j))) total 0)
          (number_at (Shifts q key' t m j) ops))) top ∙
          ap (λ (r : Bool). max (cond (r && (eqb k t && (eqb i m && eqb o j))) total 0)
          (number_at (Shifts q key t m j) ops)) (same_bytes (key_rank key)) ∙
          above (eqb k t && (eqb i m && eqb o j)) total (number_at (Shifts q key t m j) ops)
          (low (eqb k t) (eqb i m) (eqb o j) refl refl refl same) ∙
          ap (λ (h : Option KeyValue). cond (eqb k t && (eqb i m && eqb o j)) total
          (at_key h (λ key'. number_at (Shifts q key' t m j) ops))) (sym keys)

  pub fold_shifts : (k i o total : ℕ) → number_at (Shifts name key k i o) ops ≤ total →
      with_name name (names_of ops) ≡ names_of ops → fold (Count (Shifts name key k i o) total ∷ ops) ≡ with_shifts name
      k i o total (fold ops)
  unfolding fold with_shifts same_cell
  fold_shifts k i o total upto kept = λ p. record {
    names = kept p;
    key = λ q. same_keys q p;
    hits = λ q j. max_zero (number_at (Hits q j) ops) p;
    execs = λ q t j. at_key (same_keys q p) (λ key'. max_zero (number_at (Execs q key' t j) ops) p);
    shifts = λ q t m j. shifts_cells k i o total upto q t m j p;
  }

-- the clocks of what is in a set
module _ (key : KeyValue) where
  unheard_key : (a : KeyValue) → a.clock < key.clock → same_key a key ≡ false
  unheard_key a h = let ne : eqb a.clock key.clock ≡ false = ne_eqb a.clock key.clock (λ e. omega arith) in rw ne refl

  off_key : (r s b : Bool) (m n : ℕ) → s ≡ false → n ≡ 0 → max (cond (r && (s && b)) m 0) n ≡ 0
  off_key true true b m n e z = cc
  off_key true false b m n e z = omega arith
  off_key false s b m n e z = omega arith

  pub unheard_execs : (q : List ℕ) (t j : ℕ) (ops : List Operation) → clock_of ops < key.clock →
      number_at (Execs q key t j) ops ≡ 0
  unfolding same_cell
  unheard_execs q t j [] h = refl
  unheard_execs q t j (Set n a ∷ ops) h = let rest : number_at (Execs q key t j) ops ≡ 0 =
      unheard_execs q t j ops (omega arith) in omega arith
  unheard_execs q t j (Count (Hits n i) m ∷ ops) h = let rest :
      number_at (Execs q key t j) ops ≡ 0 = unheard_execs q t j ops (omega arith) in omega arith
  unheard_execs q t j (Count (Execs n a k i) m ∷ ops) h = off_key (bytes_eq n q) (same_key a key) (eqb k t && eqb i j) m
      (number_at (Execs q key t j) ops) (unheard_key a (omega arith)) (unheard_execs q t j ops (omega arith))
  unheard_execs q t j (Count (Shifts n a k i o) m ∷ ops) h = let rest :
      number_at (Execs q key t j) ops ≡ 0 = unheard_execs q t j ops (omega arith) in omega arith

  pub unheard_shifts : (q : List ℕ) (t j l : ℕ) (ops : List Operation) → clock_of ops < key.clock →
      number_at (Shifts q key t j l) ops ≡ 0
  unfolding same_cell
  unheard_shifts q t j l [] h = refl
  unheard_shifts q t j l (Set n a ∷ ops) h = let rest : number_at (Shifts q key t j l) ops ≡ 0 =
      unheard_shifts q t j l ops (omega arith) in omega arith
  unheard_shifts q t j l (Count (Hits n i) m ∷ ops) h = let rest :
      number_at (Shifts q key t j l) ops ≡ 0 = unheard_shifts q t j l ops (omega arith) in omega arith
  unheard_shifts q t j l (Count (Execs n a k i) m ∷ ops) h = let rest :
      number_at (Shifts q key t j l) ops ≡ 0 = unheard_shifts q t j l ops (omega arith) in omega arith
  unheard_shifts q t j l (Count (Shifts n a k i o) m ∷ ops) h =
      off_key (bytes_eq n q) (same_key a key) (eqb k t && (eqb i j && eqb o l)) m (number_at (Shifts q key t j l) ops)
      (unheard_key a (omega arith)) (unheard_shifts q t j l ops (omega arith))

  -- keys that a set holds are no later than its clock
  pub is_later : Option KeyValue → Type 0
  is_later None = Unit {0}
  is_later (Some a) = a.clock < key.clock

  pub later_some : (a : KeyValue) → is_later (Some a) → a.clock < key.clock
  unfolding is_later
  later_some a h = h

  later_carried : (a : Option KeyValue) (o : Option KeyValue) → is_later a → is_later o → is_later (greater a o)
  unfolding is_later
  later_carried None o h k = k
  later_carried (Some a) None h k = h
  later_carried (Some a) (Some b) h k = by_test (key_le a b)
    where
      by_test : (t : Bool) → (cond t b a).clock < key.clock
      by_test true = k
      by_test false = h

  carried_by : (t : Bool) (a : KeyValue) → a.clock < key.clock → is_later (cond t (Some a) None)
  unfolding is_later
  carried_by true a h = h
  carried_by false a h = tt

  pub all_later : (q : List ℕ) (ops : List Operation) → clock_of ops < key.clock → is_later (key_of q ops)
  unfolding is_later
  all_later q [] h = tt
  all_later q (Set n a ∷ ops) h = later_carried (cond (bytes_eq n q) (Some a) None) (key_of q ops)
      (carried_by (bytes_eq n q) a (omega arith)) (all_later q ops (omega arith))
  all_later q (Count (Hits n i) m ∷ ops) h = all_later q ops (omega arith)
  all_later q (Count (Execs n a k i) m ∷ ops) h = later_carried (cond (bytes_eq n q) (Some a) None) (key_of q ops)
      (carried_by (bytes_eq n q) a (omega arith)) (all_later q ops (omega arith))
  all_later q (Count (Shifts n a k i o) m ∷ ops) h = later_carried (cond (bytes_eq n q) (Some a) None) (key_of q ops)
      (carried_by (bytes_eq n q) a (omega arith)) (all_later q ops (omega arith))

  later_greater : (o : Option KeyValue) → is_later o → greater (Some key) o ≡ Some key
  unfolding is_later
  later_greater None h = refl
  later_greater (Some a) h = let not_le : key_le key a ≡ false = grind (arith, nat_tests) in rw not_le refl

  -- such a key is above the one that is held
  pub later_above : (o : Option KeyValue) → is_later o → is_upto (Some key) o ≡ false
  unfolding is_later
  later_above None h = refl
  later_above (Some a) h = grind (arith, nat_tests)

  pub fold_key : (name : List ℕ) (ops : List Operation) → clock_of ops < key.clock →
      fold (Set name key ∷ ops) ≡ with_key name key (fold ops)
  unfolding fold with_key
  fold_key name ops h = λ p. record {
    names = with_name name (names_of ops);
    key = λ q. keys q (bytes_eq name q) p;
    hits = λ q j. max_zero (number_at (Hits q j) ops) p;
    execs = λ q t j. execs q t j (bytes_eq name q) p;
    shifts = λ q t m j. shifts q t m j (bytes_eq name q) p;
  }
    where
      keys : (q : List ℕ) (b : Bool) → greater (cond b (Some key) None) (key_of q ops) ≡ cond b (Some key)
          (key_of q ops)
      keys q true = later_greater (key_of q ops) (all_later q ops h)
      keys q false = refl

      execs : (q : List ℕ) (t j : ℕ) (b : Bool) → at_key (greater (cond b (Some key) None) (key_of q ops))
          (λ a. max 0 (number_at (Execs q a t j) ops)) ≡ cond b 0
          (at_key (key_of q ops) (λ a. number_at (Execs q a t j) ops))
      execs q t j true = ap (λ (o : Option KeyValue). at_key o (λ a. max 0 (number_at (Execs q a t j) ops)))
          (later_greater (key_of q ops) (all_later q ops h)) ∙ max_zero (number_at (Execs q key t j) ops) ∙
          unheard_execs q t j ops h
      execs q t j false = λ p. at_key (key_of q ops) (λ a. max_zero (number_at (Execs q a t j) ops) p)

      shifts : (q : List ℕ) (t m j : ℕ) (b : Bool) → at_key (greater (cond b (Some key) None) (key_of q ops))
          (λ a. max 0 (number_at (Shifts q a t m j) ops)) ≡ cond b 0
          (at_key (key_of q ops) (λ a. number_at (Shifts q a t m j) ops))
      shifts q t m j true = ap (λ (o : Option KeyValue). at_key o (λ a. max 0 (number_at (Shifts q a t m j) ops)))
          (later_greater (key_of q ops) (all_later q ops h)) ∙ max_zero (number_at (Shifts q key t m j) ops) ∙
          unheard_shifts q t m j ops h
      shifts q t m j false = λ p. at_key (key_of q ops) (λ a. max_zero (number_at (Shifts q a t m j) ops) p)
