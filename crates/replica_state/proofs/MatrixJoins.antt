-- What matrices know together, slot by slot, and that they are ordered as their states are.
use Rattle.std.proofs.Common.{◌≡◌, ℕ, max, arith, List, [], ◌++◌, ◌⊎◌, ⊎_elim, inl, inr, Option, Some, None, refl, sym, ◌∙◌, ap, subst}
use Rattle.std.proofs.lemmas.Bool.{true≢false}
use Rattle.std.proofs.lemmas.Cmp.{nat_cmp_total, nat_list_cmp_total}
use Rattle.std.specs.Prelude.{unwrap_or}
use Rattle.std.specs.Map.{keys_of}
use Rattle.std.specs.Ordering.{nat_cmp, ordering_reverse}
use Rattle.std.specs.Option.{IsSome}
use Rattle.std.specs.Cmp.Lexicographic.{slice_cmp}
use Rattle.std.specs.declared.cmp.Ordering.{Ordering}
use Rattle.std.specs.declared.cmp.Ordering.TheVariants.{Less, Equal, Greater}
use Rattle.lattice_laws.specs.Order.{IsCopy, IsJoin, Same}
use Rattle.lattice_laws.specs.Lex.{lex_order}
use Rattle.lattice_laws.specs.Map.{MapOrder, admitted_at, stored_at, map_order}
use Rattle.lattice_laws.specs.Numbers.{numbers_order}
use Rattle.lattice_laws.specs.Pair.{AreBoth, PairOrder, pair_of}
use Rattle.lattice_laws.proofs.Bounds.{HaveBounds, pair_bounds, map_bounds}
use Rattle.lattice_laws.proofs.Entries.{found_may_be_stored}
use Rattle.lattice_laws.proofs.LexJoins.{lex_less, lex_greater}
use Rattle.lattice_laws.proofs.NumberJoins.{numbers_bottom, numbers_bounds}
use Rattle.lattice_laws.proofs.Parts.{join_at, join_first, join_second, lex_join_equal, is_empty}
use Rattle.counters.specs.Cells.{Cells, Shares, no_shares}
use Rattle.counters.proofs.CounterJoins.{cells_join, shares_join}
use Rattle.stamp_register.specs.declared.key.Key.{Key}
use Rattle.stamp_register.specs.Keys.{key_value, key_rank}
use Rattle.stamp_register.specs.contracts.key.KeyOrd.TheImpl.Laws as key_laws
use Rattle.stamp_register.proofs.KeyLemmas.{same_rank}
use Rattle.operations.specs.declared.counted.Counted.{Counted}
use Rattle.operations.specs.declared.counted.Counted.TheVariants.{Hits, Execs, Shifts}
use Rattle.operations.specs.Operations.{Operation, IsIn}
use Rattle.replica_state.specs.Folds.{fold, greater}
use Rattle.replica_state.specs.Points.{Held}
use Rattle.replica_state.specs.Unions.{union_of, both_held, with_names, key_order, number_both}
use Rattle.replica_state.specs.declared.slot.Slot.{Slot}
use Rattle.replica_state.specs.Slots.{Budgets, no_slot, budgets_number, under_key, slot_number, slot_held, slot_at, shown_slots}
use Rattle.replica_state.specs.MatrixStates.{first_key}
use Rattle.replica_state.specs.MatrixOrder.{First, first_order, are_firsts, cells_order, are_cells, shares_order, are_shares, shares_laws, budgets_order, are_budgets, key_cmp, slots_order, are_slots, slots_laws, slots_map}
use Rattle.replica_state.proofs.StateOrders.{stands_above, stands_equal, stands_below}
use Rattle.replica_state.proofs.SetJoins.{with_names-cases, with_names-old, with_names-new, with_names-ascending, sorted_ascends, united_folds}
use Rattle.replica_state.proofs.Names.{same_ascending, tied}
use Rattle.replica_state.proofs.Slots.{slot_same, no_first, stored_name, name_stored}

-- ---- joins of slots

-- a key with budgets that is joined of two
record FirstJoined (f g r : First) : Type 0 where
  key : first_key r ≡ greater (first_key f) (first_key g)
  number : (c : Counted) → under_key r c ≡ number_both (key_order (first_key g) (first_key f)) (under_key f c)
      (under_key g c)

-- what means the same counts the same
first_same : (f g : First) → Same first_order f g → (first_key f ≡ first_key g) ×
    ((c : Counted) → under_key f c ≡ under_key g c)
unfolding slot_held
first_same f g same = (ap (λ (h : Held). h.key) held, numbers)
  where
    held : slot_held (record { parts = pair_of f [] }) ≡ slot_held (record { parts = pair_of g [] })
    held = slot_same (record { parts = pair_of f [] }) (record { parts = pair_of g [] })
        ((same.0, λ q. omega arith), (same.1, λ q. omega arith))

    no_hits : (o : First) (node : ℕ) → under_key o (Hits node) ≡ 0
    no_hits None node = refl
    no_hits (Some p) node = refl

    numbers : (c : Counted) → under_key f c ≡ under_key g c
    numbers (Hits node) = no_hits f node ∙ sym (no_hits g node)
    numbers (Execs term node) = ap (λ (h : Held). h.number (Execs term node)) held
    numbers (Shifts term from to) = ap (λ (h : Held). h.number (Shifts term from to)) held

-- it can be told whether a budget or a slot is the bottom
cells_bottom : (cells : Cells) → are_cells cells → cells_order cells [] ⊎ (cells_order cells [] → ⊥)
cells_bottom cells h = numbers_bottom cells

share_bottom : (shares : Shares) → are_shares shares → shares_order shares no_shares ⊎
    (shares_order shares no_shares → ⊥)
share_bottom shares h = ⊎_elim
    (λ low. ⊎_elim (λ moved. inl (low, moved)) (λ not. inr (λ below. not below.1))
    (is_empty nat_cmp_total numbers_order shares.second h.1))
    (λ not. inr (λ below. not below.0))
    (cells_bottom shares.first h.0)

slot_bottom : (slot : Slot) → are_slots slot → slots_order slot no_slot ⊎ (slots_order slot no_slot → ⊥)
slot_bottom slot h = ⊎_elim
    (λ low. by_first slot.parts.first refl low)
    (λ not. inr (λ below. not below.1))
    (cells_bottom slot.parts.second h.1)
  where
    by_first : (f : First) → slot.parts.first ≡ f → cells_order slot.parts.second [] →
        slots_order slot no_slot ⊎ (slots_order slot no_slot → ⊥)
    by_first None e low = inl (subst (λ (o : First). first_order o None) (sym e) tt, low)
    by_first (Some p) e low = inr (λ below. subst (λ (o : First). first_order o None) e below.0)

-- budgets that are joined have the greater numbers
budgets_joined : (x y j : Budgets) → IsJoin are_budgets budgets_order x y j → (c : Counted) →
    budgets_number j c ≡ max (budgets_number x c) (budgets_number y c)
budgets_joined x y j join (Hits node) = omega arith
budgets_joined x y j join (Execs term node) = (shares_join _ _ _
    (join_at nat_cmp_total shares_laws share_bottom x y j join term)).0 node
budgets_joined x y j join (Shifts term from to) = (shares_join _ _ _
    (join_at nat_cmp_total shares_laws share_bottom x y j join term)).1 from to

-- how the second key stands to the first
turned : (k l : Key) (o : Ordering) → key_cmp k l ≡ o → key_order (Some (key_value l)) (Some (key_value k)) ≡
    ordering_reverse o
turned k l o e = nat_list_cmp_total.antisymm (key_rank (key_value l)) (key_rank (key_value k)) ∙ ap ordering_reverse e

first_reflexive : (f : First) → are_firsts f → first_order f f
first_reflexive f a = (lex_order (key_laws.lawful).total (map_order nat_cmp shares_laws)).reflexive f a

-- the greater one, where it is one of the two
is_first : (f g r : First) → Same first_order r f → key_order (first_key g) (first_key f) ≡ Less → FirstJoined f g r
is_first f g r same e =
    let equal = first_same r f same in
    record {
      key = equal.0 ∙ sym (stands_below (first_key f) (first_key g) e).1;
      number = λ c. equal.1 c ∙ ap (λ o. number_both o (under_key f c) (under_key g c)) (sym e);
    }

is_second : (f g r : First) → Same first_order r g → key_order (first_key g) (first_key f) ≡ Greater → FirstJoined f g r
is_second f g r same e =
    let equal = first_same r g same in
    record {
      key = equal.0 ∙ sym (stands_above (first_key f) (first_key g) e).1;
      number = λ c. equal.1 c ∙ ap (λ o. number_both o (under_key f c) (under_key g c)) (sym e);
    }

-- two maps of budgets have one above both
budgets_bounds : HaveBounds are_budgets budgets_order
budgets_bounds = map_bounds nat_cmp_total shares_laws (pair_bounds numbers_bounds
    (map_bounds nat_cmp_total numbers_order numbers_bounds))

first_joined : (f g r : First) → IsJoin are_firsts first_order f g r → FirstJoined f g r
first_joined None None r join =
    let none = no_first r (join.least None tt tt tt) in
    record { key = ap first_key none; number = λ c. ap (λ o. under_key o c) none ∙ omega arith }
first_joined None (Some q) r join = is_second None (Some q) r
    (join.least (Some q) join.admitted_second tt (first_reflexive (Some q) join.admitted_second), join.above_second)
    refl
first_joined (Some p) None r join = is_first (Some p) None r
    (join.least (Some p) join.admitted_first (first_reflexive (Some p) join.admitted_first) tt, join.above_first) refl
first_joined (Some p) (Some q) None join = absurd join.above_first
first_joined (Some p) (Some q) (Some r) join = by_order (key_cmp p.0 q.0) refl
  where
    by_order : (o : Ordering) → key_cmp p.0 q.0 ≡ o → FirstJoined (Some p) (Some q) (Some r)
    by_order Less e = is_second (Some p) (Some q) (Some r) (
      join.least (Some q) join.admitted_second
          (lex_less key_cmp budgets_order p.0 q.0 p.1 q.1 e) (first_reflexive (Some q) join.admitted_second),
      join.above_second,
    ) (turned p.0 q.0 Less e)
    by_order Greater e = is_first (Some p) (Some q) (Some r) (
      join.least (Some p) join.admitted_first (first_reflexive (Some p) join.admitted_first)
          (lex_greater (key_laws.lawful).total are_budgets budgets_order p.0 q.0 p.1 q.1 e),
      join.above_first,
    )
        (turned p.0 q.0 Greater e)
    by_order Equal e =
        let bound = budgets_bounds p.1 q.1 join.admitted_first join.admitted_second in
        let parts = lex_join_equal (key_laws.lawful).total are_budgets budgets_order p q r e bound.above
        bound.is_admitted bound.first bound.second join in
        let same_keys = stands_equal (Some (key_value p.0)) (Some (key_value q.0)) (turned p.0 q.0 Equal e) in
        record {
          key = ap Some (same_rank _ _ (tied _ _ parts.0)) ∙ same_keys.0 ∙ sym same_keys.1;
          number = λ c. budgets_joined p.1 q.1 r.1 parts.1 c ∙
              ap (λ o. number_both o (budgets_number p.1 c) (budgets_number q.1 c)) (sym (turned p.0 q.0 Equal e));
        }

-- what a joined slot holds
slots_joined : (x y j : Slot) → IsJoin are_slots slots_order x y j → slot_held j ≡ both_held (slot_held x) (slot_held y)
unfolding slot_held both_held
slots_joined x y j join = λ i. record { key = first.key i; number = λ c. numbers c i }
  where
    parts : IsJoin (AreBoth are_firsts are_cells) (PairOrder first_order cells_order) x.parts y.parts j.parts
    parts = record {
      admitted_first = join.admitted_first;
      admitted_second = join.admitted_second;
      admitted_join = join.admitted_join;
      above_first = join.above_first;
      above_second = join.above_second;
      least = λ u a f g. join.least (record { parts = u }) a f g;
    }

    first : FirstJoined x.parts.first y.parts.first j.parts.first
    first = first_joined x.parts.first y.parts.first j.parts.first
        (join_first are_firsts first_order are_cells cells_order x.parts y.parts j.parts parts)

    numbers : (c : Counted) → slot_number j c ≡ (both_held (slot_held x) (slot_held y)).number c
    numbers (Hits node) = cells_join x.parts.second y.parts.second j.parts.second
        (join_second are_firsts first_order are_cells cells_order x.parts y.parts j.parts parts) node
    numbers (Execs term node) = first.number (Execs term node)
    numbers (Shifts term from to) = first.number (Shifts term from to)

-- ---- names

-- a name is held where its slot means something
held_means : (slots : List (List ℕ × Slot)) → slots_map slots → (q : List ℕ) → IsIn q (keys_of slots) →
    slots_order (slot_at slots q) no_slot → ⊥
held_means slots h q here = by_stored (stored_at (slice_cmp nat_cmp) slots q) refl (name_stored slots q here)
  where
    by_stored : (o : Option Slot) → stored_at (slice_cmp nat_cmp) slots q ≡ o → IsSome o →
        slots_order (unwrap_or o no_slot) no_slot → ⊥
    by_stored None e some below = true≢false (sym some)
    by_stored (Some slot) e some below = (found_may_be_stored (slice_cmp nat_cmp) are_slots slots_order no_slot
        slots_laws slots q slot h (sym e)).1 below

means_held : (slots : List (List ℕ × Slot)) (q : List ℕ) → (slots_order (slot_at slots q) no_slot → ⊥) →
    IsIn q (keys_of slots)
means_held slots q not = by_stored (stored_at (slice_cmp nat_cmp) slots q) refl not
  where
    by_stored : (o : Option Slot) → stored_at (slice_cmp nat_cmp) slots q ≡ o →
        (slots_order (unwrap_or o no_slot) no_slot → ⊥) → IsIn q (keys_of slots)
    by_stored None e means = absurd (means (slots_laws.reflexive no_slot slots_laws.bottom_admitted))
    by_stored (Some slot) e means = stored_name slots q (subst (λ (o : Option Slot). IsSome o) (sym e) refl)

-- what is below slots of names has no more names
names_below : (x j : List (List ℕ × Slot)) → slots_map x → slots_map j →
    MapOrder (slice_cmp nat_cmp) slots_order no_slot x j → (q : List ℕ) → IsIn q (keys_of x) → IsIn q (keys_of j)
names_below x j a b below q here = means_held j q (λ low. held_means x a q here
    (slots_laws.transitive _ _ _ (at x a) (at j b) slots_laws.bottom_admitted (below q) low))
  where
    at : (m : List (List ℕ × Slot)) → slots_map m → are_slots (slot_at m q)
    at m h = admitted_at (slice_cmp nat_cmp) are_slots slots_order no_slot slots_laws m h q

abbrev IsJoined : List (List ℕ × Slot) → List (List ℕ × Slot) → List (List ℕ × Slot) → Type 0
IsJoined = IsJoin slots_map (MapOrder (slice_cmp nat_cmp) slots_order no_slot)

at_name : (x y j : List (List ℕ × Slot)) → IsJoined x y j → (name : List ℕ) →
    IsJoin are_slots slots_order (slot_at x name) (slot_at y name) (slot_at j name)
at_name x y j join name = join_at nat_list_cmp_total slots_laws slot_bottom x y j join name

names_joined : (x y j : List (List ℕ × Slot)) → IsJoined x y j → keys_of j ≡ with_names (keys_of y) (keys_of x)
names_joined x y j join = same_ascending (keys_of j) (with_names (keys_of y) (keys_of x))
    (sorted_ascends (keys_of j) join.admitted_join.ordered) (with_names-ascending (keys_of y) (keys_of x)
    (sorted_ascends (keys_of x) join.admitted_first.ordered))
    (λ q h. from_one q h (slot_bottom (slot_at x q) (at_name x y j join q).admitted_first)
    (slot_bottom (slot_at y q) (at_name x y j join q).admitted_second))
    (λ q h. ⊎_elim (λ k. names_below y j join.admitted_second join.admitted_join join.above_second q k)
    (λ k. names_below x j join.admitted_first join.admitted_join join.above_first q k)
    (with_names-cases (keys_of y) (keys_of x) q h))
  where
    from_one : (q : List ℕ) → IsIn q (keys_of j) → slots_order (slot_at x q) no_slot ⊎
        (slots_order (slot_at x q) no_slot → ⊥) → slots_order (slot_at y q) no_slot ⊎
        (slots_order (slot_at y q) no_slot → ⊥) → IsIn q (with_names (keys_of y) (keys_of x))
    from_one q h (inl a) (inl b) = absurd (held_means j join.admitted_join q h
        ((at_name x y j join q).least no_slot slots_laws.bottom_admitted a b))
    from_one q h (inr a) b = with_names-old (keys_of y) (keys_of x) q (means_held x q a)
    from_one q h (inl a) (inr b) = with_names-new (keys_of y) (keys_of x) q (means_held y q b)

-- ---- states

shown_joined : (x y j : List (List ℕ × Slot)) → IsJoined x y j →
    shown_slots j ≡ union_of (shown_slots x) (shown_slots y)
unfolding shown_slots union_of slot_held both_held
shown_joined x y j join = λ i. record {
  names = names_joined x y j join i;
  key = λ name. ap (λ (h : Held). h.key) (held name) i;
  hits = λ name node. ap (λ (h : Held). h.number (Hits node)) (held name) i;
  execs = λ name term node. ap (λ (h : Held). h.number (Execs term node)) (held name) i;
  shifts = λ name term from to. ap (λ (h : Held). h.number (Shifts term from to)) (held name) i;
}
  where
    held : (name : List ℕ) → slot_held (slot_at j name) ≡ both_held (slot_held (slot_at x name))
        (slot_held (slot_at y name))
    held name = slots_joined (slot_at x name) (slot_at y name) (slot_at j name) (at_name x y j join name)

pub slots_unite : (x y both : List (List ℕ × Slot)) → IsJoined x y both → (a b : List Operation) →
    shown_slots x ≡ fold a → shown_slots y ≡ fold b → shown_slots both ≡ fold (a ++ b)
slots_unite x y both join a b h k = united_folds (shown_slots both) (shown_slots x) (shown_slots y)
    (shown_joined x y both join) a b h k

pub slots_copied : (x copy : List (List ℕ × Slot)) → IsCopy slots_map (MapOrder (slice_cmp nat_cmp) slots_order no_slot)
    x copy → shown_slots copy ≡ shown_slots x
unfolding shown_slots slot_held
slots_copied x copy is = λ i. record {
  names = names i;
  key = λ name. ap (λ (h : Held). h.key) (held name) i;
  hits = λ name node. ap (λ (h : Held). h.number (Hits node)) (held name) i;
  execs = λ name term node. ap (λ (h : Held). h.number (Execs term node)) (held name) i;
  shifts = λ name term from to. ap (λ (h : Held). h.number (Shifts term from to)) (held name) i;
}
  where
    names : keys_of copy ≡ keys_of x
    names = same_ascending (keys_of copy) (keys_of x) (sorted_ascends (keys_of copy) is.admitted_copy.ordered)
        (sorted_ascends (keys_of x) is.admitted_source.ordered)
        (names_below copy x is.admitted_copy is.admitted_source is.below)
        (names_below x copy is.admitted_source is.admitted_copy is.above)

    held : (name : List ℕ) → slot_held (slot_at copy name) ≡ slot_held (slot_at x name)
    held name = slot_same (slot_at copy name) (slot_at x name) (is.below name, is.above name)
