-- What a matrix shows after what is stored of one name was written.
use Rattle.std.proofs.Common.{◌≡◌, ◌≢◌, ℕ, ◌+◌, ◌≤◌, max, arith, length, zero, suc, Bool, true, false, cond, List, [], ◌∷◌, inl, inr, Option, Some, None, refl, sym, ◌∙◌, ap, subst, ⊎_elim}
use Rattle.std.proofs.lemmas.Bool.{true≢false, eq-eqb}
use Rattle.std.proofs.lemmas.Map.Text.{is_eq-slice_cmp}
use Rattle.std.proofs.lemmas.Map.Keys.{sorted_head, sorted_tail}
use Rattle.std.specs.Prelude.{unwrap_or, slice_get, option_map, is_none, IfSome}
use Rattle.std.specs.Str.{bytes_eq}
use Rattle.std.specs.Map.{keys_of}
use Rattle.std.specs.Borrow.{Bor}
use Rattle.std.specs.Option.{IsSome, is_some, option_copied}
use Rattle.std.specs.Ordering.{nat_cmp, is_eq, match_ordering}
use Rattle.std.specs.Cmp.Lexicographic.{slice_cmp}
use Rattle.std.specs.List.{AllByRecursion}
use Rattle.std.specs.List.Sorted.{IsStrictlySortedBy}
use Rattle.std.specs.declared.cmp.Ordering.{Ordering}
use Rattle.std.specs.declared.cmp.Ordering.TheVariants.{Less, Equal, Greater}
use Rattle.lattice_laws.specs.Order.{IsJoin, Same}
use Rattle.lattice_laws.specs.Lex.{LexOrder, lex_same}
use Rattle.lattice_laws.specs.Map.{stored_at, IsStored, PutsOnly, RaisesOnly}
use Rattle.lattice_laws.proofs.Entries.{found_may_be_stored}
use Rattle.lattice_laws.proofs.Joins.{copy_from_bottom}
use Rattle.counters.specs.Cells.{cell}
use Rattle.stamp_register.specs.declared.key.Key.{Key}
use Rattle.stamp_register.specs.Keys.{KeyValue, key_value, key_le}
use Rattle.stamp_register.specs.contracts.key.KeyOrd.TheImpl.Laws as key_laws
use Rattle.stamp_register.proofs.KeyLemmas.{same_rank}
use Rattle.operations.specs.declared.counted.Count.{Count}
use Rattle.replica_state.specs.Folds.{fold, greater}
use Rattle.operations.specs.declared.counted.Counted.{Counted}
use Rattle.operations.specs.declared.counted.Counted.TheVariants.{Hits, Execs, Shifts}
use Rattle.operations.specs.Operations.{IsIn}
use Rattle.replica_state.specs.States.{with_name}
use Rattle.replica_state.specs.Points.{Held, empty_held, raised_numbers, held_after_learning}
use Rattle.operations.specs.Counts.{same_counted, is_hits}
use Rattle.replica_state.specs.Cells.{cell_of, held_at, with_held}
use Rattle.replica_state.specs.declared.slot.Slot.{Slot}
use Rattle.replica_state.specs.Slots.{Budgets, SaysSomething, no_slot, under_key, slot_key, slot_number, slot_held, slot_at, shown_slots}
use Rattle.replica_state.proofs.Orders.{bytes_eq-true, bytes_eq-refl}
use Rattle.replica_state.proofs.Shown.{with_held-same}
use Rattle.replica_state.specs.MatrixOrder.{budgets_order, key_cmp, slots_order, are_slots, slots_laws, slots_map}
use Rattle.replica_state.specs.MatrixStates.{budgets_upto, cell_upto}
use Rattle.replica_state.proofs.Names.{IsAscending, same_ascending, with_name-cases, with_name-new, with_name-old, with_name-ascending, tied}

-- ---- the names of a map

abbrev pub stored : {X : Type 0} → List (List ℕ × X) → List ℕ → Option X
stored entries name = stored_at (slice_cmp nat_cmp) entries name

pub ascending : (ns : List (List ℕ)) → IsStrictlySortedBy (slice_cmp nat_cmp) ns → IsAscending ns
ascending [] h = tt
ascending (n ∷ ns) h = (
  all ns (sorted_head (slice_cmp nat_cmp) n ns h),
  ascending ns (sorted_tail (slice_cmp nat_cmp) n ns h),
)
  where
    all : (ms : List (List ℕ)) → AllByRecursion (λ m. slice_cmp nat_cmp n m ≡ Less) ms → (m : List ℕ) → IsIn m ms →
        slice_cmp nat_cmp n m ≡ Less
    all [] g m k = absurd k
    all (x ∷ ms) g m (inl e) = ap (λ q. slice_cmp nat_cmp n q) e ∙ g.0
    all (x ∷ ms) g m (inr k) = all ms g.1 m k

pub stored_name : {X : Type 0} (slots : List (List ℕ × X)) (q : List ℕ) → IsSome (stored slots q) →
    IsIn q (keys_of slots)
stored_name [] q h = absurd (let impossible : false ≡ true = h in cc)
stored_name (e ∷ slots) q h = by_test (slice_cmp nat_cmp q e.0) refl (stored_name slots q) h
  where
    by_test : (o : Ordering) → slice_cmp nat_cmp q e.0 ≡ o → (IsSome (stored slots q) → IsIn q (keys_of slots)) →
        IsSome (cond (is_eq o) (Some e.1) (stored slots q)) → IsIn q (e.0 ∷ keys_of slots)
    by_test Less s rest k = inr (rest k)
    by_test Equal s rest k = inl (tied q e.0 s)
    by_test Greater s rest k = inr (rest k)

pub name_stored : {X : Type 0} (slots : List (List ℕ × X)) (q : List ℕ) → IsIn q (keys_of slots) →
    IsSome (stored slots q)
name_stored [] q h = absurd h
name_stored (e ∷ slots) q h = by_test (is_eq (slice_cmp nat_cmp q e.0)) refl (name_stored slots q) h
  where
    by_test : (b : Bool) → is_eq (slice_cmp nat_cmp q e.0) ≡ b → (IsIn q (keys_of slots) → IsSome (stored slots q)) →
        IsIn q (e.0 ∷ keys_of slots) → IsSome (cond b (Some e.1) (stored slots q))
    by_test true s rest k = refl
    by_test false s rest (inl f) = absurd (true≢false (sym (is_eq-slice_cmp q e.0 ∙ ap (λ n. bytes_eq q n) (sym f) ∙
        bytes_eq-refl q) ∙ s))
    by_test false s rest (inr k) = rest k

not_tied : (name q : List ℕ) → bytes_eq name q ≡ false → slice_cmp nat_cmp name q ≢ Equal
not_tied name q e s = true≢false (sym (sym (is_eq-slice_cmp name q) ∙ ap is_eq s) ∙ e)

-- the names where something is stored of one more
pub names_put : (old new : List (List ℕ × Slot)) (name : List ℕ) →
    IsStrictlySortedBy (slice_cmp nat_cmp) (keys_of old) → IsStrictlySortedBy (slice_cmp nat_cmp) (keys_of new) →
    IsSome (stored new name) → ((q : List ℕ) → slice_cmp nat_cmp name q ≢ Equal → stored new q ≡ stored old q) →
    keys_of new ≡ with_name name (keys_of old)
names_put old new name a b here others = same_ascending (keys_of new) (with_name name (keys_of old))
    (ascending (keys_of new) b) (with_name-ascending name (keys_of old) (ascending (keys_of old) a))
    (λ q h. by_test q (bytes_eq name q) refl (name_stored new q h))
    (λ q h. ⊎_elim (λ e. stored_name new q (subst (λ n. IsSome (stored new n)) (sym e) here))
    (λ k. still q (bytes_eq name q) refl (name_stored old q k)) (with_name-cases name q (keys_of old) h))
  where
    by_test : (q : List ℕ) (t : Bool) → bytes_eq name q ≡ t → IsSome (stored new q) →
        IsIn q (with_name name (keys_of old))
    by_test q true e s = subst (λ n. IsIn n (with_name name (keys_of old))) (bytes_eq-true name q e)
        (with_name-new name (keys_of old))
    by_test q false e s = with_name-old name q (keys_of old)
        (stored_name old q (subst (λ o. IsSome o) (others q (not_tied name q e)) s))

    still : (q : List ℕ) (t : Bool) → bytes_eq name q ≡ t → IsSome (stored old q) → IsIn q (keys_of new)
    still q true e s = subst (λ n. IsIn n (keys_of new)) (bytes_eq-true name q e) (stored_name new name here)
    still q false e s = stored_name new q (subst (λ o. IsSome o) (sym (others q (not_tied name q e))) s)

-- a name of which something is stored adds none
pub name_kept : (slots : List (List ℕ × Slot)) (name : List ℕ) →
    IsStrictlySortedBy (slice_cmp nat_cmp) (keys_of slots) → IsSome (stored slots name) →
    with_name name (keys_of slots) ≡ keys_of slots
name_kept slots name a here = sym (names_put slots slots name a a here (λ q ne. refl))

-- ---- the state with another slot at a name

module _ (old new : List (List ℕ × Slot)) (name : List ℕ) (h : Held) (here : slot_held (slot_at new name) ≡ h)
    (others : (q : List ℕ) → slice_cmp nat_cmp name q ≢ Equal → stored new q ≡ stored old q) where
  part : {A : Type 0} (f : Held → A) (q : List ℕ) → f (slot_held (slot_at new q)) ≡ cond (bytes_eq name q) (f h)
      (f (slot_held (slot_at old q)))
  part {A} f q = by_test (bytes_eq name q) refl
    where
      by_test : (t : Bool) → bytes_eq name q ≡ t → f (slot_held (slot_at new q)) ≡ cond t (f h)
          (f (slot_held (slot_at old q)))
      by_test true e = ap (λ n. f (slot_held (slot_at new n))) (sym (bytes_eq-true name q e)) ∙ ap f here
      by_test false e = ap (λ (o : Option Slot). f (slot_held (unwrap_or o no_slot))) (others q (not_tied name q e))

  pub put : keys_of new ≡ with_name name (keys_of old) → shown_slots new ≡ with_held name h (shown_slots old)
  unfolding shown_slots with_held slot_held
  put k = λ i. record {
    names = k i;
    key = λ q. part (λ x. x.key) q i;
    hits = λ q n. part (λ x. x.number (Hits n)) q i;
    execs = λ q t n. part (λ x. x.number (Execs t n)) q i;
    shifts = λ q t m n. part (λ x. x.number (Shifts t m n)) q i;
  }

-- what a name holds is what its slot holds
pub slot_seen : (slots : List (List ℕ × Slot)) (name : List ℕ) →
    slot_held (slot_at slots name) ≡ held_at (shown_slots slots) name
unfolding shown_slots slot_held
slot_seen slots name = λ i. record { key = slot_key (slot_at slots name); number = λ d. numbers d i }
  where
    numbers : (d : Counted) → slot_number (slot_at slots name) d ≡ (held_at (shown_slots slots) name).number d
    numbers (Hits n) = refl
    numbers (Execs t n) = refl
    numbers (Shifts t m n) = refl

pub held_found : (slots : List (List ℕ × Slot)) (name : List ℕ) (held : Slot) → stored slots name ≡ Some held →
    slot_held held ≡ held_at (shown_slots slots) name
held_found slots name held found = ap (λ (o : Option Slot). slot_held (unwrap_or o no_slot)) (sym found) ∙
    slot_seen slots name

-- ---- slots, by what they hold

le_both : (a b : ℕ) → a ≤ b → b ≤ a → a ≡ b
le_both a b h k = omega arith

-- slots that mean the same hold the same
pub slot_same : (x y : Slot) → Same slots_order x y → slot_held x ≡ slot_held y
unfolding slot_held
slot_same x y same = by_first x.parts.first y.parts.first refl refl (same.0.0, same.1.0)
  where
    cells : (q : ℕ) → cell x.parts.second q ≡ cell y.parts.second q
    cells q = le_both _ _ (cell_upto x.parts.second y.parts.second same.0.1 q)
        (cell_upto y.parts.second x.parts.second same.1.1 q)

    by_first : (f g : Option (Key × Budgets)) → x.parts.first ≡ f → y.parts.first ≡ g →
        Same (LexOrder key_cmp budgets_order) f g → slot_held x ≡ slot_held y
    by_first None None e k s = λ i. record {
      key = option_map (λ p. key_value p.0) ((e ∙ sym k) i);
      number =
          λ d. numbers d i;
    }
      where
        numbers : (d : Counted) → slot_number x d ≡ slot_number y d
        numbers (Hits q) = cells q
        numbers (Execs t q) = ap (λ o. under_key o (Execs t q)) (e ∙ sym k)
        numbers (Shifts t a b) = ap (λ o. under_key o (Shifts t a b)) (e ∙ sym k)
    by_first None (Some q) e k s = absurd s.1
    by_first (Some p) None e k s = absurd s.0
    by_first (Some p) (Some q) e k s = λ i. record { key = keys i; number = λ d. numbers d i }
      where
        both : (key_cmp p.0 q.0 ≡ Equal) × Same budgets_order p.1 q.1
        both = lex_same (key_laws.lawful).total budgets_order p q s

        keys : slot_key x ≡ slot_key y
        keys = ap (λ o. option_map (λ p. key_value p.0) o) e ∙ ap Some (same_rank _ _ (tied _ _ both.0)) ∙
            sym (ap (λ o. option_map (λ p. key_value p.0) o) k)

        under_both : (d : Counted) → under_key x.parts.first d ≡ under_key y.parts.first d
        under_both d = ap (λ o. under_key o d) e ∙ le_both _ _ (budgets_upto p.1 q.1 both.1.0 d)
            (budgets_upto q.1 p.1 both.1.1 d) ∙ sym (ap (λ o. under_key o d) k)

        numbers : (d : Counted) → slot_number x d ≡ slot_number y d
        numbers (Hits j) = cells j
        numbers (Execs t j) = under_both (Execs t j)
        numbers (Shifts t a b) = under_both (Shifts t a b)

-- a slot that means nothing has no key and no hits
pub no_first : (f : Option (Key × Budgets)) → LexOrder key_cmp budgets_order f None → f ≡ None
no_first None h = refl
no_first (Some p) h = absurd h

pub keyless : (x : Slot) → slots_order x no_slot → slot_key x ≡ None
keyless x h = ap (λ o. option_map (λ p. key_value p.0) o) (no_first x.parts.first h.0)

pub hitless : (x : Slot) → slots_order x no_slot → (q : ℕ) → slot_number x (Hits q) ≡ 0
unfolding cell
hitless x h q = let none : cell x.parts.second q ≤ 0 = h.1 q in omega arith

-- and one that holds the same means nothing as well
pub bottom_by_held : (x y : Slot) → slot_held x ≡ slot_held y → slots_order x no_slot → slots_order y no_slot
unfolding slot_held cell
bottom_by_held x y e h = (
  by_first y.parts.first (sym (ap (λ (k : Held). k.key) e) ∙ keyless x h),
  λ q. let none =
      hitless x h q in let same = ap (λ (k : Held). k.number (Hits q)) e in omega (arith, none, same),
)
  where
    by_first : (f : Option (Key × Budgets)) → option_map (λ p. key_value p.0) f ≡ None →
        LexOrder key_cmp budgets_order f None
    by_first None k = tt
    by_first (Some p) k = absurd (let impossible : ◌≡◌ {A = Option KeyValue} (Some (key_value p.0)) None = k in cc)

-- ---- the state of a matrix after a change

stored_is : (o : Option Slot) (left : Slot) → IsStored (slice_cmp nat_cmp) are_slots slots_order no_slot o left →
    (slots_order left no_slot → ⊥) → o ≡ Some left
stored_is None left h not = absurd (not h)
stored_is (Some held) left h not = ap Some h.0

pub changed_to : (old new : List (List ℕ × Slot)) (name : List ℕ) (left : Slot) (h : Held) → slots_map old →
    slots_map new → PutsOnly (slice_cmp nat_cmp) are_slots slots_order no_slot old new name left →
    (slots_order left no_slot → ⊥) → slot_held left ≡ h → shown_slots new ≡ with_held name h (shown_slots old)
changed_to old new name left h a b puts not e =
    let here : stored new name ≡ Some left = stored_is (stored new name) left puts.this_key not in
    put old new name h (ap (λ (o : Option Slot). slot_held (unwrap_or o no_slot)) here ∙ e) puts.other_keys
    (names_put old new name a.ordered b.ordered (subst (λ (o : Option Slot). IsSome o) (sym here) refl) puts.other_keys)

pub unchanged_slots : (old new : List (List ℕ × Slot)) (name : List ℕ) (held left : Slot) → slots_map old →
    slots_map new → stored old name ≡ Some held → PutsOnly (slice_cmp nat_cmp) are_slots slots_order no_slot old new
    name left →
    slot_held left ≡ slot_held held → shown_slots new ≡ shown_slots old
unfolding shown_slots
unchanged_slots old new name held left a b found puts e =
    changed_to old new name left (held_at (shown_slots old) name) a b puts
    (λ bottom. (found_may_be_stored (slice_cmp nat_cmp) are_slots slots_order no_slot slots_laws old name held a
    (sym found)).1 (bottom_by_held left held e bottom)) (e ∙ held_found old name held found)
    ∙ with_held-same name (shown_slots old) (name_kept old name a.ordered
    (subst (λ (o : Option Slot). IsSome o) (sym found) refl))

pub added_to : (old new : List (List ℕ × Slot)) (name : List ℕ) (slot : Slot) (h : Held) → slots_map old →
    slots_map new → stored old name ≡ None → RaisesOnly (slice_cmp nat_cmp) are_slots slots_order no_slot old new name
    slot →
    (slots_order slot no_slot → ⊥) → slot_held slot ≡ h → shown_slots new ≡ with_held name h (shown_slots old)
added_to old new name slot h a b none raises not e =
    let joins : IsJoin are_slots slots_order no_slot slot (slot_at new name) =
    subst (λ (o : Option Slot). IsJoin are_slots slots_order (unwrap_or o no_slot) slot (slot_at new name)) none
    raises.this_key in
    let copy = copy_from_bottom slots_laws slot (slot_at new name) joins in
    put old new name h (slot_same (slot_at new name) slot (copy.below, copy.above) ∙ e) raises.other_keys
    (names_put old new name a.ordered b.ordered (is_there (stored new name) copy.above) raises.other_keys)
  where
    is_there : (o : Option Slot) → slots_order slot (unwrap_or o no_slot) → IsSome o
    is_there None k = absurd (not k)
    is_there (Some x) k = refl

-- what was learned is something
pub learned_is_something : (key : Option KeyValue) (told : Option Count) (h : Held) (b : Bool) → b ≡ is_none key →
    IfSome told (λ c. is_hits c.counted ≡ b) → SaysSomething key told → held_after_learning key told h ≢ empty_held
unfolding empty_held held_after_learning
learned_is_something (Some key) told h b same kinds is e = by_key h.key (ap (λ (k : Held). k.key) e)
  where
    by_key : (o : Option KeyValue) → greater (Some key) o ≡ None → ⊥
    by_key None k = let impossible : ◌≡◌ {A = Option KeyValue} (Some key) None = k in cc
    by_key (Some other) k = let impossible : ◌≡◌ {A = Option KeyValue} (Some (cond (key_le key other) other key)) None =
        k in cc
learned_is_something None None h b same kinds is e = is
learned_is_something None (Some count) h b same kinds is e = by_kind count.counted refl (kinds ∙ same)
  where
    by_kind : (c : Counted) → count.counted ≡ c → is_hits c ≡ true → ⊥
    by_kind (Hits node) s k =
        let number : raised_numbers (Some count) h.number (Hits node) ≡ 0 = ap (λ (g : Held). g.number (Hits node)) e in
        let hit : raised_numbers (Some count) h.number (Hits node) ≡ max count.number (h.number (Hits node)) =
        ap (λ b. cond b (max count.number (h.number (Hits node))) (h.number (Hits node)))
        (ap (λ d. same_counted d (Hits node)) s ∙ eq-eqb node node refl) in
        absurd (omega (arith, number, hit, is))
    by_kind (Execs term node) s k = true≢false (sym k)
    by_kind (Shifts term from to) s k = true≢false (sym k)

pub nothing_shown : shown_slots [] ≡ fold []
unfolding shown_slots fold cell
nothing_shown = refl

pub none_told : (o : Option (Bor Key)) → is_none o ≡ is_none (option_map key_value (option_copied o))
none_told None = refl
none_told (Some key) = refl

-- ---- readers

nothing_at : (c : Counted) → slot_number no_slot c ≡ 0
unfolding cell
nothing_at (Hits node) = refl
nothing_at (Execs term node) = refl
nothing_at (Shifts term from to) = refl

pub absent_number : (slots : List (List ℕ × Slot)) (name : List ℕ) (c : Counted) → stored slots name ≡ None →
    slot_number (slot_at slots name) c ≡ 0
absent_number slots name c none = ap (λ (o : Option Slot). slot_number (unwrap_or o no_slot) c) none ∙ nothing_at c

pub seen_number : (slots : List (List ℕ × Slot)) (name : List ℕ) (c : Counted) →
    slot_number (slot_at slots name) c ≡ cell_of (shown_slots slots) name c
unfolding shown_slots
seen_number slots name (Hits node) = refl
seen_number slots name (Execs term node) = refl
seen_number slots name (Shifts term from to) = refl

pub name_missing : {X : Type 0} (slots : List (List ℕ × X)) (name : List ℕ) → stored slots name ≡ None →
    IsIn name (keys_of slots) → ⊥
name_missing {X} slots name none h = true≢false (sym (subst (λ (o : Option X). IsSome o) none
    (name_stored slots name h)))

pub name_added : (ns : List (List ℕ)) (name : List ℕ) → (IsIn name ns → ⊥) → length (with_name name ns) ≡ length ns + 1
name_added [] name not = refl
name_added (n ∷ ns) name not = by_order (slice_cmp nat_cmp name n) refl (name_added ns name (λ h. not (inr h)))
  where
    by_order : (o : Ordering) → slice_cmp nat_cmp name n ≡ o → length (with_name name ns) ≡ length ns + 1 →
        length (match_ordering o (name ∷ n ∷ ns) (n ∷ ns) (n ∷ with_name name ns)) ≡ length (n ∷ ns) + 1
    by_order Less e rest = omega arith
    by_order Equal e rest = absurd (not (inl (tied name n e)))
    by_order Greater e rest = omega (arith, rest)

pub names_more : (slots : List (List ℕ × Slot)) (name : List ℕ) → stored slots name ≡ None →
    length (with_name name (keys_of slots)) ≡ length (keys_of slots) + 1
names_more slots name none = name_added (keys_of slots) name (name_missing slots name none)

pub key_place : (slots : List (List ℕ × Slot)) (i : ℕ) → slice_get (keys_of slots) i ≡ option_map (λ e. e.0)
    (slice_get slots i)
key_place [] i = refl
key_place (e ∷ slots) zero = refl
key_place (e ∷ slots) (suc i) = key_place slots i

pub seen_is : {A : Type 0} (o : Option (Bor A)) → is_some (option_copied o) ≡ is_some o
seen_is None = refl
seen_is (Some held) = refl
