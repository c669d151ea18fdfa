-- A delivery that says no more of a node than it knows leaves what it wrote, and its own rights don't become negative.
use Rattle.std.proofs.Common.{◌≡◌, ℕ, ◌≤◌, Bool, true, false, not, ◌&&◌, List, ◌++◌, ◌⊎◌, inl, inr, ⊎_elim, Option, Some, None, refl, sym, ◌∙◌, ap, subst, arith}
use Rattle.std.proofs.lemmas.Bool.{true≢false, eq-eqb, leb-true, not-false}
use Rattle.std.proofs.lemmas.Int.{ints}
use Rattle.std.specs.List.{list_any}
use Rattle.std.specs.Prelude.{pos, ◌≤ℤ◌, option_map}
use Rattle.std.specs.Option.{option_map_or}
use Rattle.counters.specs.Sums.{node_numbers, sum_others}
use Rattle.counters.specs.Budgets.{Budget, rights}
use Rattle.counters.proofs.SumLemmas.{sum_others-le, sum_others-zero}
use Rattle.stamp_register.specs.Keys.{KeyValue, key_le, same_key}
use Rattle.operations.specs.Operations.{Operation, writer_of, Count, Hits, Execs, Shifts, IsIn, count_of}
use Rattle.replica_state.specs.States.{State, budget, budget_under, rights_of}
use Rattle.replica_state.specs.Knowledge.{knows_count, knows}
use Rattle.replica_state.specs.Folds.{fold, key_of, number_at, at_key}
use Rattle.replica_state.proofs.Orders.{key_le-antisym, same_key-refl, same_key-true}
use Rattle.replica_state.proofs.Sets.{number_at-is_in, number_at-least, number_at-mono, KeyUpto, key_of-mono, no_cell_above}
use Rattle.operations.proofs.Members.{IsIn-append_right, IsIn-append_cases}
use Rattle.replica_state.proofs.KnownSets.{Kind, exec_kind, shift_kind, value_of}
use Rattle.replica_state.proofs.Changes.{any_false, count_known}
use Rattle.node_steps.specs.Refusals.{is_ahead}
use Rattle.node_steps.proofs.OwnRights.{HasOwn}

-- ---- one operation

-- what the node wrote itself is known, where it isn't ahead
known_own : (i : ℕ) (v : State) (op : Operation) → writer_of op ≡ i → is_ahead i v op ≡ false → knows v op ≡ true
known_own i v op own h = not-false _ (subst (λ t. (t && not (knows v op)) ≡ false) (eq-eqb (writer_of op) i own) h)

-- a key that is at most another is that one, or stands below it
same_or_below : (held : Option KeyValue) (key : KeyValue) → KeyUpto held (Some key) →
    (held ≡ Some key) ⊎ (KeyUpto (Some key) held → ⊥)
same_or_below None key h = inr (λ k. k)
same_or_below (Some other) key h = at (same_key other key) refl
  where
    at : (t : Bool) → same_key other key ≡ t → (Some other ≡ Some key) ⊎ ((key_le key other ≡ true) → ⊥)
    at true e = inl (ap Some (same_key-true other key e))
    at false e = inr (λ k.
        let same : other ≡ key = key_le-antisym other key h k in
        true≢false (sym (subst (λ l. same_key other l ≡ true) same (same_key-refl other)) ∙ e))

-- ---- cells

module _ (ops known : List Operation) (q : List ℕ) where
  -- the key is that which was known, or is above it
  key_grows : (key : KeyValue) → key_of q (ops ++ known) ≡ Some key →
      (key_of q known ≡ Some key) ⊎ (KeyUpto (Some key) (key_of q known) → ⊥)
  key_grows key e = same_or_below (key_of q known) key (subst (KeyUpto (key_of q known)) e
      (key_of-mono q known (ops ++ known) (λ op. IsIn-append_right op ops known)))

  -- a cell that was known is no smaller
  cell_grows : (kind : Kind q) (key : KeyValue) → number_at (kind.cell key) known ≤ number_at (kind.cell key)
      (ops ++ known)
  cell_grows kind key = number_at-mono (kind.cell key) known (ops ++ known)
      (λ n. IsIn-append_right (Count (kind.cell key) n) ops known)

  module _ (kind : Kind q) (behind : (key : KeyValue) (n : ℕ) → IsIn (Count (kind.cell key) n) ops →
      knows_count key n (value_of kind known) (key_of q known) ≡ true) where
    -- under the same key the cells are no greater
    cell_kept : (key : KeyValue) → key_of q known ≡ Some key →
        number_at (kind.cell key) (ops ++ known) ≤ number_at (kind.cell key) known
    cell_kept key e = number_at-least (kind.cell key) (number_at (kind.cell key) known) (ops ++ known)
        (λ n m. ⊎_elim (least n) (number_at-is_in (kind.cell key) n known) (IsIn-append_cases _ ops known m))
      where
        least : (n : ℕ) → IsIn (Count (kind.cell key) n) ops → n ≤ number_at (kind.cell key) known
        least n m = subst (λ x. n ≤ x) (ap (λ o. at_key o (λ l. number_at (kind.cell l) known)) e)
            ((count_known key n (value_of kind known) (key_of q known) (behind key n m)).1 e)

    -- under a greater one there are none
    cell_none : (key : KeyValue) → (KeyUpto (Some key) (key_of q known) → ⊥) →
        number_at (kind.cell key) (ops ++ known) ≡ 0
    cell_none key above =
        let known_none : number_at (kind.cell key) known ≡ 0 =
        no_cell_above q (kind.cell key) key known (kind.carries key) above in
        let most : number_at (kind.cell key) (ops ++ known) ≤ 0 =
        number_at-least (kind.cell key) 0 (ops ++ known) (λ n m. ⊎_elim (least n)
        (λ l. let upto = number_at-is_in (kind.cell key) n known l in omega (arith, upto, known_none))
        (IsIn-append_cases _ ops known m)) in
        omega (arith, most)
      where
        least : (n : ℕ) → IsIn (Count (kind.cell key) n) ops → n ≤ 0
        least n m = absurd (above (count_known key n (value_of kind known) (key_of q known) (behind key n m)).0)

    value_kept : value_of kind (ops ++ known) ≤ value_of kind known
    value_kept = by_key (key_of q (ops ++ known)) refl
      where
        by_key : (held : Option KeyValue) → key_of q (ops ++ known) ≡ held →
            at_key held (λ key. number_at (kind.cell key) (ops ++ known)) ≤ value_of kind known
        by_key None e = omega arith
        by_key (Some key) e = ⊎_elim
            (λ same. subst (λ x. number_at (kind.cell key) (ops ++ known) ≤ x)
            (sym (ap (λ o. at_key o (λ l. number_at (kind.cell l) known)) same)) (cell_kept key same))
            (λ above. let none = cell_none key above in omega (arith, none))
            (key_grows key e)

    value_none : (key : KeyValue) → key_of q (ops ++ known) ≡ Some key → (KeyUpto (Some key) (key_of q known) → ⊥) →
        value_of kind (ops ++ known) ≡ 0
    value_none key e above = ap (λ o. at_key o (λ l. number_at (kind.cell l) (ops ++ known))) e ∙ cell_none key above

  value_grows : (kind : Kind q) (key : KeyValue) → key_of q (ops ++ known) ≡ Some key → key_of q known ≡ Some key →
      value_of kind known ≤ value_of kind (ops ++ known)
  value_grows kind key e same =
      let now : value_of kind (ops ++ known) ≡ number_at (kind.cell key) (ops ++ known) =
      ap (λ o. at_key o (λ l. number_at (kind.cell l) (ops ++ known))) e in
      let was : value_of kind known ≡ number_at (kind.cell key) known =
      ap (λ o. at_key o (λ l. number_at (kind.cell l) known)) same in
      let more = cell_grows kind key in
      omega (arith, now, was, more)

-- ---- what a node wrote itself

module _ (i : ℕ) (ops known : List Operation) (mine : list_any (is_ahead i (fold known)) ops ≡ false) (q : List ℕ) where
  hits_at : (fold (ops ++ known)).hits q i ≤ (fold known).hits q i
  unfolding fold
  hits_at = number_at-least (Hits q i) (number_at (Hits q i) known) (ops ++ known)
      (λ n m. ⊎_elim (least n) (number_at-is_in (Hits q i) n known) (IsIn-append_cases _ ops known m))
    where
      least : (n : ℕ) → IsIn (Count (Hits q i) n) ops → n ≤ number_at (Hits q i) known
      least n m = leb-true n (number_at (Hits q i) known) (known_own i (fold known) (Count (Hits q i) n) refl
          (any_false (is_ahead i (fold known)) ops mine (Count (Hits q i) n) m))

  execs_behind : (k : ℕ) (key : KeyValue) (n : ℕ) → IsIn (Count (Execs q key k i) n) ops →
      knows_count key n (value_of (exec_kind q k i) known) (key_of q known) ≡ true
  unfolding fold exec_kind
  execs_behind k key n m = known_own i (fold known) (Count (Execs q key k i) n) refl
      (any_false (is_ahead i (fold known)) ops mine (Count (Execs q key k i) n) m)

  shifts_behind : (k j : ℕ) (key : KeyValue) (n : ℕ) → IsIn (Count (Shifts q key k i j) n) ops →
      knows_count key n (value_of (shift_kind q k i j) known) (key_of q known) ≡ true
  unfolding fold shift_kind
  shifts_behind k j key n m = known_own i (fold known) (Count (Shifts q key k i j) n) refl
      (any_false (is_ahead i (fold known)) ops mine (Count (Shifts q key k i j) n) m)

  execs_at : (k : ℕ) → (fold (ops ++ known)).execs q k i ≤ (fold known).execs q k i
  unfolding fold exec_kind
  execs_at k = value_kept ops known q (exec_kind q k i) (execs_behind k)

  shifts_at : (k j : ℕ) → (fold (ops ++ known)).shifts q k i j ≤ (fold known).shifts q k i j
  unfolding fold shift_kind
  shifts_at k j = value_kept ops known q (shift_kind q k i j) (shifts_behind k j)

  -- the key is that which was known, or nothing went from the node under it
  key_at : (key : KeyValue) → (fold (ops ++ known)).key q ≡ Some key →
      ((fold known).key q ≡ Some key) ⊎ (KeyUpto (Some key) ((fold known).key q) → ⊥)
  unfolding fold
  key_at key e = key_grows ops known q key e

  execs_none : (k : ℕ) (key : KeyValue) → (fold (ops ++ known)).key q ≡ Some key →
      (KeyUpto (Some key) ((fold known).key q) → ⊥) → (fold (ops ++ known)).execs q k i ≡ 0
  unfolding fold exec_kind
  execs_none k key e above = value_none ops known q (exec_kind q k i) (execs_behind k) key e above

  shifts_none : (k j : ℕ) (key : KeyValue) → (fold (ops ++ known)).key q ≡ Some key →
      (KeyUpto (Some key) ((fold known).key q) → ⊥) → (fold (ops ++ known)).shifts q k i j ≡ 0
  unfolding fold shift_kind
  shifts_none k j key e above = value_none ops known q (shift_kind q k i j) (shifts_behind k j) key e above

  -- and what came to it only grew
  shifts_came : (k j : ℕ) (key : KeyValue) → (fold (ops ++ known)).key q ≡ Some key → (fold known).key q ≡ Some key →
      (fold known).shifts q k j i ≤ (fold (ops ++ known)).shifts q k j i
  unfolding fold shift_kind
  shifts_came k j key e same = value_grows ops known q (shift_kind q k j i) key e same

  module _ (own : HasOwn (fold known) i) (k : ℕ) where
    abbrev v : State
    v = fold known

    abbrev u : State
    u = fold (ops ++ known)

    -- under the same key
    same_rights : (key : KeyValue) (n : ℕ) → u.key q ≡ Some key → v.key q ≡ Some key →
        pos 0 ≤ℤ rights (budget v q k key.node n) i → pos 0 ≤ℤ rights (budget u q k key.node n) i
    same_rights key n e same had =
        let came : sum_others node_numbers i (λ j. v.shifts q k j i) ≤ sum_others node_numbers i
        (λ j. u.shifts q k j i) = sum_others-le node_numbers i (λ j. v.shifts q k j i) (λ j. u.shifts q k j i)
        (λ j. shifts_came k j key e same) in
        let went : sum_others node_numbers i (λ j. u.shifts q k i j) ≤ sum_others node_numbers i
        (λ j. v.shifts q k i j) = sum_others-le node_numbers i (λ j. u.shifts q k i j) (λ j. v.shifts q k i j)
        (λ j. shifts_at k j) in
        let spent : u.execs q k i ≤ v.execs q k i = execs_at k in
        let granted : v.shifts q k i i ≤ u.shifts q k i i = shifts_came k i key e same in
        omega (arith, ints, had, came, went, spent, granted)

    -- under a greater one
    new_rights : (key : KeyValue) (n : ℕ) → u.key q ≡ Some key → (KeyUpto (Some key) (v.key q) → ⊥) →
        pos 0 ≤ℤ rights (budget u q k key.node n) i
    new_rights key n e above =
        let went : sum_others node_numbers i (λ j. u.shifts q k i j) ≡ 0 =
        sum_others-zero node_numbers i (λ j. u.shifts q k i j) (λ j. shifts_none k j key e above) in
        let spent : u.execs q k i ≡ 0 = execs_none k key e above in
        omega (arith, ints, went, spent)

    abbrev known_rights : Option ℕ → KeyValue → Type 0
    known_rights found key = pos 0 ≤ℤ option_map_or (λ (b : Budget). rights b i)
        (option_map (λ n. budget v q k key.node n) found) (pos 0)

    by_count : (key : KeyValue) (found : Option ℕ) → u.key q ≡ Some key →
        ((v.key q ≡ Some key) → known_rights found key) → pos 0 ≤ℤ option_map_or (λ (b : Budget). rights b i)
        (option_map (λ n. budget u q k key.node n) found) (pos 0)
    by_count key None e had = omega (arith, ints)
    by_count key (Some n) e had = ⊎_elim (λ same. same_rights key n e same (had same))
        (λ above. new_rights key n e above) (key_at key e)

    by_held : (held : Option KeyValue) → u.key q ≡ held → pos 0 ≤ℤ option_map_or (λ (b : Budget). rights b i)
        (budget_under u q k held) (pos 0)
    by_held None e = omega (arith, ints)
    by_held (Some key) e = by_count key (count_of key k) e (λ same. subst
        (λ o. pos 0 ≤ℤ option_map_or (λ (b : Budget). rights b i) (budget_under v q k o) (pos 0)) same (own q k))

    own_at : pos 0 ≤ℤ rights_of u q k i
    own_at = by_held (u.key q) refl

pub own_hits_kept : (i : ℕ) (ops known : List Operation) → list_any (is_ahead i (fold known)) ops ≡ false →
    (q : List ℕ) → (fold (ops ++ known)).hits q i ≤ (fold known).hits q i
own_hits_kept i ops known mine q = hits_at i ops known mine q

pub own_execs_kept : (i : ℕ) (ops known : List Operation) → list_any (is_ahead i (fold known)) ops ≡ false →
    (q : List ℕ) (k : ℕ) → (fold (ops ++ known)).execs q k i ≤ (fold known).execs q k i
own_execs_kept i ops known mine q k = execs_at i ops known mine q k

pub own_delivered : (i : ℕ) (ops known : List Operation) → list_any (is_ahead i (fold known)) ops ≡ false →
    HasOwn (fold known) i → HasOwn (fold (ops ++ known)) i
own_delivered i ops known mine own q k = own_at i ops known mine q own k
