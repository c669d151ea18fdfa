-- A set with one operation more comes to the state in which the operation's name has learned it.
use Rattle.std.proofs.Common.{◌≡◌, ℕ, max, Bool, true, false, cond, ◌&&◌, eqb, List, [], ◌∷◌, Option, Some, None, refl, sym, ◌∙◌, ap, arith}
use Rattle.std.proofs.lemmas.Bool.{true≢false}
use Rattle.std.proofs.lemmas.Bool.Decides.{nat_tests}
use Rattle.std.specs.Prelude.{unwrap_or}
use Rattle.std.specs.Str.{bytes_eq}
use Rattle.std.specs.Ordering.{nat_cmp, is_le, is_eq, match_ordering}
use Rattle.std.specs.Cmp.Lexicographic.{slice_cmp}
use Rattle.std.specs.declared.cmp.Ordering.{Ordering}
use Rattle.std.specs.declared.cmp.Ordering.TheVariants.{Less, Equal, Greater}
use Rattle.stamp_register.specs.Keys.{KeyValue, key_le, same_key, key_rank}
use Rattle.operations.specs.declared.counted.Counted.TheVariants as kinds
use Rattle.operations.specs.declared.counted.Count.{Count}
use Rattle.operations.specs.declared.counted.Counted.{Counted}
use Rattle.operations.specs.Operations.{Hits, Execs, Shifts, Operation, Set, Count as Counting, same_cell, IsWellFormed, name_in}
use Rattle.replica_state.specs.Folds.{fold, names_of, greater, key_in, key_of, number_at, at_key, holds_name}
use Rattle.replica_state.specs.States.{State, with_name}
use Rattle.replica_state.specs.Points.{Held, order_to_held, held_after_learning, held_after_count}
use Rattle.replica_state.specs.Cells.{held_at, with_held}
use Rattle.operations.specs.Counts.{key_told, count_told, cell_told, operation_told}
use Rattle.replica_state.proofs.Orders.{key_le-trans, key_le-other, same_key-cmp, same_key-true, same_key-refl, bytes_eq-true}
use Rattle.replica_state.proofs.FoldSteps.{max_zero}
use Rattle.replica_state.proofs.Learned.{held_none, held_equal}

-- a key above the greater of two is above both
above_both : (key : KeyValue) (a b : Option KeyValue) → order_to_held key (greater a b) ≡ Greater →
    (order_to_held key a ≡ Greater) × (order_to_held key b ≡ Greater)
above_both key None b h = (refl, h)
above_both key (Some a) None h = (h, refl)
above_both key (Some a) (Some b) h = by_test (key_le a b) refl h
  where
    gt : (o : Ordering) → (is_le o ≡ true → ⊥) → o ≡ Greater
    gt Less never = absurd (never refl)
    gt Equal never = absurd (never refl)
    gt Greater never = refl

    not_le : (o : Ordering) → o ≡ Greater → is_le o ≡ true → ⊥
    not_le o e k = true≢false (sym k ∙ ap is_le e)

    by_test : (t : Bool) → key_le a b ≡ t → order_to_held key (Some (cond t b a)) ≡ Greater →
        (order_to_held key (Some a) ≡ Greater) × (order_to_held key (Some b) ≡ Greater)
    by_test true e h = (gt _ (λ k. not_le _ h (key_le-trans key a b k e)), h)
    by_test false e h = (h, gt _ (λ k. not_le _ h (key_le-trans key b a k (key_le-other a b e))))

-- under a key that is above all that a set carries it counts nothing
off_cell : (n q : List ℕ) (a key : KeyValue) (t : Bool) (m : ℕ) →
    order_to_held key (cond (bytes_eq n q) (Some a) None) ≡ Greater →
    cond (bytes_eq n q && (same_key a key && t)) m 0 ≡ 0
off_cell n q a key t m h = by_name (bytes_eq n q) h
  where
    by_key : (r : Bool) → same_key a key ≡ r → order_to_held key (Some a) ≡ Greater → cond (r && t) m 0 ≡ 0
    by_key false e h = refl
    by_key true e h =
        let same : a ≡ key = same_key-true a key e in
        let tied : is_eq (order_to_held key (Some a)) ≡ true = sym (same_key-cmp key a) ∙
        ap (λ (k : KeyValue). same_key key k) same ∙ same_key-refl key in
        absurd (true≢false (sym tied ∙ ap is_eq h))

    by_name : (r : Bool) → order_to_held key (cond r (Some a) None) ≡ Greater →
        cond (r && (same_key a key && t)) m 0 ≡ 0
    by_name false h = refl
    by_name true h = by_key (same_key a key) refl h

module _ (key : KeyValue) (q : List ℕ) where
  pub no_execs : (t j : ℕ) (ops : List Operation) → order_to_held key (key_of q ops) ≡ Greater →
      number_at (Execs q key t j) ops ≡ 0
  unfolding same_cell
  no_execs t j [] h = refl
  no_execs t j (Set n a ∷ ops) h = max_zero _ ∙ no_execs t j ops
      (above_both key (key_in q (Set n a)) (key_of q ops) h).1
  no_execs t j (Counting (Hits n i) m ∷ ops) h = max_zero _ ∙ no_execs t j ops h
  no_execs t j (Counting (Execs n a k i) m ∷ ops) h =
      let both = above_both key (key_in q (Counting (Execs n a k i) m)) (key_of q ops) h in
      λ x. max (off_cell n q a key (eqb k t && eqb i j) m both.0 x) (no_execs t j ops both.1 x)
  no_execs t j (Counting (Shifts n a k i o) m ∷ ops) h = max_zero _ ∙
      no_execs t j ops (above_both key (key_in q (Counting (Shifts n a k i o) m)) (key_of q ops) h).1

  pub no_shifts : (t j l : ℕ) (ops : List Operation) → order_to_held key (key_of q ops) ≡ Greater →
      number_at (Shifts q key t j l) ops ≡ 0
  unfolding same_cell
  no_shifts t j l [] h = refl
  no_shifts t j l (Set n a ∷ ops) h = max_zero _ ∙ no_shifts t j l ops
      (above_both key (key_in q (Set n a)) (key_of q ops) h).1
  no_shifts t j l (Counting (Hits n i) m ∷ ops) h = max_zero _ ∙ no_shifts t j l ops h
  no_shifts t j l (Counting (Execs n a k i) m ∷ ops) h = max_zero _ ∙
      no_shifts t j l ops (above_both key (key_in q (Counting (Execs n a k i) m)) (key_of q ops) h).1
  no_shifts t j l (Counting (Shifts n a k i o) m ∷ ops) h =
      let both = above_both key (key_in q (Counting (Shifts n a k i o) m)) (key_of q ops) h in
      λ x. max (off_cell n q a key (eqb k t && (eqb i j && eqb o l)) m both.0 x) (no_shifts t j l ops both.1 x)

-- the number of a cell of the key, with an operation more that carries a key
module _ (key : KeyValue) (f : KeyValue → ℕ) where
  -- a cell that it doesn't count
  pub other_cell : (o : Option KeyValue) → (order_to_held key o ≡ Greater → f key ≡ 0) →
      at_key (greater (Some key) o) (λ a. max 0 (f a)) ≡ match_ordering (order_to_held key o) (at_key o f) (at_key o f)
      0
  other_cell None gone = max_zero (f key) ∙ gone refl
  other_cell (Some a) gone = by_order (slice_cmp nat_cmp (key_rank key) (key_rank a)) refl
    where
      by_order : (r : Ordering) → slice_cmp nat_cmp (key_rank key) (key_rank a) ≡ r →
          max 0 (f (cond (is_le r) a key)) ≡ match_ordering r (f a) (f a) 0
      by_order Less e = max_zero (f a)
      by_order Equal e = max_zero (f a)
      by_order Greater e = max_zero (f key) ∙ gone e

  -- a cell that it may count
  pub own_cell : (t : Bool) (m : ℕ) (o : Option KeyValue) → (order_to_held key o ≡ Greater → f key ≡ 0) →
      at_key (greater (Some key) o) (λ a. max (cond (same_key key a && t) m 0) (f a)) ≡ match_ordering
      (order_to_held key o) (at_key o f) (cond t (max m (at_key o f)) (at_key o f)) (cond t (max m 0) 0)
  own_cell t m None gone = fresh_cell (same_key-refl key) (gone refl) t
    where
      fresh_cell : {r : Bool} → r ≡ true → f key ≡ 0 → (t : Bool) → max (cond (r && t) m 0) (f key) ≡ cond t (max m 0) 0
      fresh_cell e g t = ap (λ s. max (cond (s && t) m 0) (f key)) e ∙ ap (λ n. max (cond t m 0) n) g ∙ split t
        where
          split : (t : Bool) → max (cond t m 0) 0 ≡ cond t (max m 0) 0
          split true = refl
          split false = refl
  own_cell t m (Some a) gone = by_order (slice_cmp nat_cmp (key_rank key) (key_rank a)) refl (same_key-cmp key a) t
    where
      by_order : (r : Ordering) → slice_cmp nat_cmp (key_rank key) (key_rank a) ≡ r → same_key key a ≡ is_eq r →
          (t : Bool) → max (cond (same_key key (cond (is_le r) a key) && t) m 0) (f (cond (is_le r) a key)) ≡
          match_ordering r (f a) (cond t (max m (f a)) (f a)) (cond t (max m 0) 0)
      by_order Less e s t = ap (λ b. max (cond (b && t) m 0) (f a)) s ∙ max_zero (f a)
      by_order Equal e s true = ap (λ b. max (cond (b && true) m 0) (f a)) s
      by_order Equal e s false = ap (λ b. max (cond (b && false) m 0) (f a)) s ∙ max_zero (f a)
      by_order Greater e s true = ap (λ b. max (cond (b && true) m 0) (f key)) (same_key-refl key) ∙
          ap (λ n. max m n) (gone e)
      by_order Greater e s false = ap (λ b. max (cond (b && false) m 0) (f key)) (same_key-refl key) ∙
          max_zero (f key) ∙ gone e

always : (r : Ordering) (m : ℕ) → m ≡ match_ordering r m m m
always Less m = refl
always Equal m = refl
always Greater m = refl

-- a part that is as it was, seen at each name
module _ (n q : List ℕ) {A : Type 0} (old : List ℕ → A) where
  untouched : (t : Bool) → bytes_eq n q ≡ t → old q ≡ cond t (old n) (old q)
  untouched true e = ap old (sym (bytes_eq-true n q e))
  untouched false e = refl

  -- a part that is another one at the name
  touched : (new : Bool → A) (told : List ℕ → A) → new true ≡ told q → new false ≡ old q → (t : Bool) →
      bytes_eq n q ≡ t → new t ≡ cond t (told n) (old q)
  touched new told here there true e = here ∙ ap told (sym (bytes_eq-true n q e))
  touched new told here there false e = there

module _ (ops : List Operation) where
  abbrev execs_in : List ℕ → ℕ → ℕ → ℕ
  execs_in q t j = at_key (key_of q ops) (λ a. number_at (Execs q a t j) ops)

  abbrev shifts_in : List ℕ → ℕ → ℕ → ℕ → ℕ
  shifts_in q t j l = at_key (key_of q ops) (λ a. number_at (Shifts q a t j l) ops)

  kept_execs : (q : List ℕ) (t j : ℕ) → at_key (key_of q ops) (λ a. max 0 (number_at (Execs q a t j) ops)) ≡ at_key
      (key_of q ops) (λ a. number_at (Execs q a t j) ops)
  kept_execs q t j = λ x. at_key (key_of q ops) (λ a. max_zero (number_at (Execs q a t j) ops) x)

  kept_shifts : (q : List ℕ) (t j l : ℕ) → at_key (key_of q ops) (λ a. max 0 (number_at (Shifts q a t j l) ops)) ≡
      at_key (key_of q ops) (λ a. number_at (Shifts q a t j l) ops)
  kept_shifts q t j l = λ x. at_key (key_of q ops) (λ a. max_zero (number_at (Shifts q a t j l) ops) x)

  added_hits : (n : List ℕ) (i m : ℕ) → holds_name (Counting (Hits n i) m) ≡ true →
      fold (Counting (Hits n i) m ∷ ops) ≡ with_held n (held_after_learning None
      (Some (record { counted = kinds.Hits i; number = m })) (held_at (fold ops) n)) (fold ops)
  unfolding fold with_held held_after_learning same_cell
  added_hits n i m held = λ x. record {
    names = ap (λ b. cond b (with_name n (names_of ops)) (names_of ops)) held x;
    key = λ q. untouched n q (λ p. key_of p ops) (bytes_eq n q) refl x;
    hits = λ q j. cells q j x;
    execs = λ q t j. (kept_execs q t j ∙ untouched n q (λ p. at_key (key_of p ops) (λ a. number_at (Execs p a t j) ops))
        (bytes_eq n q) refl) x;
    shifts = λ q t j l. (kept_shifts q t j l ∙ untouched n q
        (λ p. at_key (key_of p ops) (λ a. number_at (Shifts p a t j l) ops)) (bytes_eq n q) refl) x;
  }
    where
      raise : (t : Bool) (r : ℕ) → max (cond t m 0) r ≡ cond t (max m r) r
      raise true r = refl
      raise false r = max_zero r

      cells : (q : List ℕ) (j : ℕ) → max (cond (bytes_eq n q && eqb i j) m 0) (number_at (Hits q j) ops) ≡ cond
          (bytes_eq n q) (cond (eqb i j) (max m (number_at (Hits n j) ops)) (number_at (Hits n j) ops))
          (number_at (Hits q j) ops)
      cells q j = touched n q (λ p. number_at (Hits p j) ops)
          (λ b. max (cond (b && eqb i j) m 0) (number_at (Hits q j) ops))
          (λ p. cond (eqb i j) (max m (number_at (Hits p j) ops)) (number_at (Hits p j) ops))
          (raise (eqb i j) (number_at (Hits q j) ops)) (max_zero (number_at (Hits q j) ops)) (bytes_eq n q) refl

  -- under a key that an operation carries
  module _ (n : List ℕ) (key : KeyValue) where
    keys_told : (q : List ℕ) → greater (cond (bytes_eq n q) (Some key) None) (key_of q ops) ≡ cond (bytes_eq n q)
        (greater (Some key) (key_of n ops)) (key_of q ops)
    keys_told q = touched n q (λ p. key_of p ops) (λ b. greater (cond b (Some key) None) (key_of q ops))
        (λ p. greater (Some key) (key_of p ops)) refl refl (bytes_eq n q) refl

    hits_told : (q : List ℕ) (j : ℕ) → max 0 (number_at (Hits q j) ops) ≡ cond (bytes_eq n q)
        (match_ordering (order_to_held key (key_of n ops)) (number_at (Hits n j) ops) (number_at (Hits n j) ops)
        (number_at (Hits n j) ops)) (number_at (Hits q j) ops)
    hits_told q j = touched n q (λ p. number_at (Hits p j) ops) (λ b. max 0 (number_at (Hits q j) ops))
        (λ p. match_ordering (order_to_held key (key_of p ops)) (number_at (Hits p j) ops) (number_at (Hits p j) ops)
        (number_at (Hits p j) ops)) (max_zero (number_at (Hits q j) ops) ∙
        always (order_to_held key (key_of q ops)) (number_at (Hits q j) ops)) (max_zero (number_at (Hits q j) ops))
        (bytes_eq n q) refl

    execs_told : (q : List ℕ) (t j : ℕ) → at_key (greater (cond (bytes_eq n q) (Some key) None) (key_of q ops))
        (λ a. max 0 (number_at (Execs q a t j) ops)) ≡ cond (bytes_eq n q)
        (match_ordering (order_to_held key (key_of n ops)) (execs_in n t j) (execs_in n t j) 0) (execs_in q t j)
    execs_told q t j = touched n q (λ p. execs_in p t j) (λ b. at_key (greater (cond b (Some key) None) (key_of q ops))
        (λ a. max 0 (number_at (Execs q a t j) ops))) (λ p. match_ordering (order_to_held key (key_of p ops))
        (execs_in p t j) (execs_in p t j) 0) (other_cell key (λ a. number_at (Execs q a t j) ops) (key_of q ops)
        (no_execs key q t j ops)) (kept_execs q t j) (bytes_eq n q) refl

    shifts_told : (q : List ℕ) (t j l : ℕ) → at_key (greater (cond (bytes_eq n q) (Some key) None) (key_of q ops))
        (λ a. max 0 (number_at (Shifts q a t j l) ops)) ≡ cond (bytes_eq n q)
        (match_ordering (order_to_held key (key_of n ops)) (shifts_in n t j l) (shifts_in n t j l) 0)
        (shifts_in q t j l)
    shifts_told q t j l = touched n q (λ p. shifts_in p t j l)
        (λ b. at_key (greater (cond b (Some key) None) (key_of q ops)) (λ a. max 0 (number_at (Shifts q a t j l) ops)))
        (λ p. match_ordering (order_to_held key (key_of p ops)) (shifts_in p t j l) (shifts_in p t j l) 0)
        (other_cell key (λ a. number_at (Shifts q a t j l) ops) (key_of q ops) (no_shifts key q t j l ops))
        (kept_shifts q t j l) (bytes_eq n q) refl

    execs_counted : (m : ℕ) (s : Bool) (q : List ℕ) (t j : ℕ) →
        at_key (greater (cond (bytes_eq n q) (Some key) None) (key_of q ops))
        (λ a. max (cond (bytes_eq n q && (same_key key a && s)) m 0) (number_at (Execs q a t j) ops)) ≡ cond
        (bytes_eq n q) (match_ordering (order_to_held key (key_of n ops)) (execs_in n t j)
        (cond s (max m (execs_in n t j)) (execs_in n t j)) (cond s (max m 0) 0)) (execs_in q t j)
    execs_counted m s q t j = touched n q (λ p. execs_in p t j)
        (λ b. at_key (greater (cond b (Some key) None) (key_of q ops))
        (λ a. max (cond (b && (same_key key a && s)) m 0) (number_at (Execs q a t j) ops)))
        (λ p. match_ordering (order_to_held key (key_of p ops)) (execs_in p t j)
        (cond s (max m (execs_in p t j)) (execs_in p t j)) (cond s (max m 0) 0))
        (own_cell key (λ a. number_at (Execs q a t j) ops) s m (key_of q ops) (no_execs key q t j ops))
        (kept_execs q t j) (bytes_eq n q) refl

    shifts_counted : (m : ℕ) (s : Bool) (q : List ℕ) (t j l : ℕ) →
        at_key (greater (cond (bytes_eq n q) (Some key) None) (key_of q ops))
        (λ a. max (cond (bytes_eq n q && (same_key key a && s)) m 0) (number_at (Shifts q a t j l) ops)) ≡ cond
        (bytes_eq n q) (match_ordering (order_to_held key (key_of n ops)) (shifts_in n t j l)
        (cond s (max m (shifts_in n t j l)) (shifts_in n t j l)) (cond s (max m 0) 0)) (shifts_in q t j l)
    shifts_counted m s q t j l = touched n q (λ p. shifts_in p t j l)
        (λ b. at_key (greater (cond b (Some key) None) (key_of q ops))
        (λ a. max (cond (b && (same_key key a && s)) m 0) (number_at (Shifts q a t j l) ops)))
        (λ p. match_ordering (order_to_held key (key_of p ops)) (shifts_in p t j l)
        (cond s (max m (shifts_in p t j l)) (shifts_in p t j l)) (cond s (max m 0) 0))
        (own_cell key (λ a. number_at (Shifts q a t j l) ops) s m (key_of q ops) (no_shifts key q t j l ops))
        (kept_shifts q t j l) (bytes_eq n q) refl

    added_key : fold (Set n key ∷ ops) ≡ with_held n (held_after_learning (Some key) None (held_at (fold ops) n))
        (fold ops)
    unfolding fold with_held held_after_learning
    added_key = λ x. record {
      names = with_name n (names_of ops);
      key = λ q. keys_told q x;
      hits = λ q j. hits_told q j x;
      execs = λ q t j. execs_told q t j x;
      shifts = λ q t j l. shifts_told q t j l x;
    }

    added_execs : (k i m : ℕ) → fold (Counting (Execs n key k i) m ∷ ops) ≡ with_held n
        (held_after_learning (Some key) (Some (record { counted = kinds.Execs k i; number = m }))
        (held_at (fold ops) n)) (fold ops)
    unfolding fold with_held held_after_learning same_cell
    added_execs k i m = λ x. record {
      names = with_name n (names_of ops);
      key = λ q. keys_told q x;
      hits = λ q j. hits_told q j x;
      execs = λ q t j. execs_counted m (eqb k t && eqb i j) q t j x;
      shifts = λ q t j l. shifts_told q t j l x;
    }

    added_shifts : (k i o m : ℕ) → fold (Counting (Shifts n key k i o) m ∷ ops) ≡ with_held n
        (held_after_learning (Some key) (Some (record { counted = kinds.Shifts k i o; number = m }))
        (held_at (fold ops) n)) (fold ops)
    unfolding fold with_held held_after_learning same_cell
    added_shifts k i o m = λ x. record {
      names = with_name n (names_of ops);
      key = λ q. keys_told q x;
      hits = λ q j. hits_told q j x;
      execs = λ q t j. execs_told q t j x;
      shifts = λ q t j l. shifts_counted m (eqb k t && (eqb i j && eqb o l)) q t j l x;
    }

pub fold_added : (op : Operation) (ops : List Operation) → holds_name op ≡ true →
    fold (op ∷ ops) ≡ with_held (name_in op) (held_after_learning (key_told op) (count_told op)
    (held_at (fold ops) (name_in op))) (fold ops)
fold_added (Set n key) ops held = added_key ops n key
fold_added (Counting (Hits n i) m) ops held = added_hits ops n i m held
fold_added (Counting (Execs n key k i) m) ops held = added_execs ops n key k i m
fold_added (Counting (Shifts n key k i o) m) ops held = added_shifts ops n key k i o m

-- the same of a state that is that of a set
added : (v : State) (op : Operation) → holds_name op ≡ true → (ops : List Operation) → v ≡ fold ops →
    with_held (name_in op) (held_after_learning (key_told op) (count_told op) (held_at v (name_in op))) v ≡ fold
    (op ∷ ops)
added v op held ops e = ap (λ (s : State). with_held (name_in op)
    (held_after_learning (key_told op) (count_told op) (held_at s (name_in op))) s) e ∙ sym (fold_added op ops held)

pub well_formed-holds : (o : Operation) → IsWellFormed o → holds_name o ≡ true
well_formed-holds (Set n key) h = refl
well_formed-holds (Counting (Hits n i) m) h = grind (arith, nat_tests)
well_formed-holds (Counting (Execs n key term node) m) h = refl
well_formed-holds (Counting (Shifts n key term from to) m) h = refl

-- with its parts by themselves
pub added_parts : (v : State) (o : Operation) (name : List ℕ) (key : Option KeyValue) (count : Option Count) →
    name ≡ name_in o → key ≡ key_told o → count ≡ count_told o → IsWellFormed o → (ops : List Operation) →
    v ≡ fold ops → with_held name (held_after_learning key count (held_at v name)) v ≡ fold (o ∷ ops)
added_parts v o name key count n k c h ops e = (λ i. with_held (n i) (held_after_learning (k i) (c i) (held_at v (n i)))
    v) ∙ added v o (well_formed-holds o h) ops e

-- the same of what a setting or a count tells
pub added_told : (v : State) (name : List ℕ) (key : KeyValue) (told : Option Count) (carried : Option KeyValue) →
    ((n : List ℕ) → carried ≡ key_told (operation_told n key told)) → IsWellFormed (operation_told name key told) →
    (ops : List Operation) → v ≡ fold ops → with_held name (held_after_learning carried told (held_at v name)) v ≡ fold
    (operation_told name key told ∷ ops)
added_told v name key told carried k h ops e = added_parts v (operation_told name key told) name carried told
    (named told) (k name) (counted told) h ops e
  where
    of_cell : (c : Counted) (n : ℕ) → (name ≡ name_in (Counting (cell_told name key c) n)) ×
        (Some (record { counted = c; number = n }) ≡ count_told (Counting (cell_told name key c) n))
    of_cell (kinds.Hits node) n = (refl, refl)
    of_cell (kinds.Execs term node) n = (refl, refl)
    of_cell (kinds.Shifts term from to) n = (refl, refl)

    named : (t : Option Count) → name ≡ name_in (operation_told name key t)
    named None = refl
    named (Some t) = (of_cell t.counted t.number).0

    counted : (t : Option Count) → t ≡ count_told (operation_told name key t)
    counted None = refl
    counted (Some t) = (of_cell t.counted t.number).1

-- ---- a count under the key that is held

own_order : (key : KeyValue) → order_to_held key (Some key) ≡ Equal
own_order key = tied (slice_cmp nat_cmp (key_rank key) (key_rank key)) (sym (same_key-cmp key key) ∙ same_key-refl key)
  where
    tied : (o : Ordering) → is_eq o ≡ true → o ≡ Equal
    tied Less e = absurd (true≢false (sym e))
    tied Equal e = refl
    tied Greater e = absurd (true≢false (sym e))

pub added_count : (v : State) (name : List ℕ) (key : KeyValue) (count : Count) → v.key name ≡ Some key →
    IsWellFormed (operation_told name key (Some count)) → (ops : List Operation) → v ≡ fold ops →
    with_held name (held_after_count count (held_at v name)) v ≡ fold (operation_told name key (Some count) ∷ ops)
unfolding held_after_count
added_count v name key count here formed ops e = by_kind count.counted count.number formed
  where
    of_kind : (c : Count) (carried : Option KeyValue) → ((n : List ℕ) →
        carried ≡ key_told (operation_told n key (Some c))) → IsWellFormed (operation_told name key (Some c)) →
        held_after_count c (held_at v name) ≡ held_after_learning carried (Some c) (held_at v name) →
        with_held name (held_after_count c (held_at v name)) v ≡ fold (operation_told name key (Some c) ∷ ops)
    of_kind c carried told h same = ap (λ (g : Held). with_held name g v) same ∙
        added_told v name key (Some c) carried told h ops e

    under : (c : Count) → held_after_count c (held_at v name) ≡ held_after_learning (Some key) (Some c) (held_at v name)
    under c = held_equal (held_at v name) (held_after_count c (held_at v name)) (Some key) (Some c) key refl
        (ap (order_to_held key) here ∙ own_order key) refl (λ d. refl)

    beside : (c : Count) → held_after_count c (held_at v name) ≡ held_after_learning None (Some c) (held_at v name)
    beside c = held_none (held_at v name) (held_after_count c (held_at v name)) None (Some c) refl refl (λ d. refl)

    by_kind : (counted : Counted) (n : ℕ) → IsWellFormed (operation_told name key
        (Some (record { counted = counted; number = n }))) →
        with_held name (held_after_count (record { counted = counted; number = n }) (held_at v name)) v ≡ fold
        (operation_told name key (Some (record { counted = counted; number = n })) ∷ ops)
    by_kind (kinds.Hits node) n h = of_kind (record { counted = kinds.Hits node; number = n }) None (λ q. refl) h
        (beside _)
    by_kind (kinds.Execs term node) n h = of_kind (record { counted = kinds.Execs term node; number = n }) (Some key)
        (λ q. refl) h (under _)
    by_kind (kinds.Shifts term from to) n h = of_kind (record { counted = kinds.Shifts term from to; number = n })
        (Some key) (λ q. refl) h (under _)

-- the key that a name has is one
pub one_key : {k : Option KeyValue} (a b : KeyValue) → k ≡ Some a → k ≡ Some b → a ≡ b
one_key a b e f = ap (λ o. unwrap_or o a) (sym e ∙ f)
