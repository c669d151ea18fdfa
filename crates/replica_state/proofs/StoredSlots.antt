-- What is stored of a name, and what a matrix shows after a change of it.
use Rattle.std.proofs.Common.{◌≡◌, ◌≢◌, ℕ, arith, length, true, false, List, Option, Some, None, refl, sym, ◌∙◌, ap, subst}
use Rattle.std.proofs.lemmas.Bool.{true≢false}
use Rattle.std.specs.Prelude.{unwrap_or, IfSome, IfNone, pos}
use Rattle.std.specs.Borrow.{Bor}
use Rattle.std.specs.Option.{IsSome, is_some, option_copied, option_map_or}
use Rattle.std.specs.Ordering.{nat_cmp}
use Rattle.std.specs.Cmp.Lexicographic.{slice_cmp}
use Rattle.lattice_laws.specs.Map.{ChangesOnly, RaisesOnly}
use Rattle.counters.specs.Sums.{node_numbers, sum_below}
use Rattle.counters.specs.Budgets.{Budget, rights, total_spent}
use Rattle.counters.proofs.SumLemmas.{sum-zero}
use Rattle.stamp_register.specs.declared.key.Key.{Key}
use Rattle.stamp_register.specs.Keys.{KeyValue}
use Rattle.operations.specs.declared.counted.Count.{Count}
use Rattle.operations.specs.declared.counted.Counted.{Counted}
use Rattle.operations.specs.declared.counted.Counted.TheVariants.{Hits, Execs, Shifts}
use Rattle.replica_state.specs.States as states
use Rattle.replica_state.specs.States.{State, with_name, total_hits, granted_of, budget_of, rights_of, spent_of}
use Rattle.replica_state.specs.Points.{Held, empty_held, held_after_key, held_after_pass, held_after_count, budget_under, rights_of_key}
use Rattle.replica_state.specs.Cells.{cell_of, held_at, with_held}
use Rattle.replica_state.specs.declared.slot.Slot.{Slot}
use Rattle.replica_state.specs.Slots.{Budgets, IsSlotOf, HasNoSlot, ChangesSlot, no_slot, under_key, slot_key, slot_number, slot_held, slot_rights, shown_slots}
use Rattle.replica_state.specs.Stored.{stored_held}
use Rattle.replica_state.specs.MatrixOrder.{slots_order, are_slots, slots_map}
use Rattle.replica_state.proofs.SlotLemmas.{not_found}
use Rattle.replica_state.proofs.Slots.{stored, keyless, hitless, no_first, name_kept, names_more, seen_number, absent_number, changed_to, unchanged_slots, added_to}

-- ---- what is stored

pub slot_is : (slots : List (List ℕ × Slot)) (name : List ℕ) (slot : Slot) → slots_map slots →
    stored slots name ≡ Some slot → IsSlotOf (shown_slots slots) name slot
unfolding shown_slots
slot_is slots name slot a found = record {
  key = ap (λ (o : Option Slot). slot_key (unwrap_or o no_slot)) (sym found);
  number = λ c. ap (λ (o : Option Slot). slot_number (unwrap_or o no_slot) c) (sym found) ∙ seen_number slots name c;
  named = name_kept slots name a.ordered (subst (λ (o : Option Slot). IsSome o) (sym found) refl);
}

no_slot_is : (slots : List (List ℕ × Slot)) (name : List ℕ) → slots_map slots → stored slots name ≡ None →
    HasNoSlot (shown_slots slots) name
unfolding shown_slots
no_slot_is slots name a none = record {
  key = ap (λ (o : Option Slot). slot_key (unwrap_or o no_slot)) none;
  number = λ c. sym (seen_number slots name c) ∙ absent_number slots name c none;
  unnamed = names_more slots name none;
}

pub slot_found : (o : Option (Bor Slot)) (slots : List (List ℕ × Slot)) (name : List ℕ) → slots_map slots →
    option_copied o ≡ stored slots name → IfSome o (λ s. IsSlotOf (shown_slots slots) name s.now)
slot_found None slots name a e = tt
slot_found (Some s) slots name a e = slot_is slots name s.now a (sym e)

pub slot_missing : (o : Option (Bor Slot)) (slots : List (List ℕ × Slot)) (name : List ℕ) → slots_map slots →
    option_copied o ≡ stored slots name → IfNone o (HasNoSlot (shown_slots slots) name)
slot_missing None slots name a e = no_slot_is slots name a (sym e)
slot_missing (Some s) slots name a e = tt

pub unfound : {A : Type 0} (o : Option A) (slots : List (List ℕ × Slot)) (name : List ℕ) → slots_map slots →
    (IsSome (stored slots name) → IsSome o) → IfNone o (HasNoSlot (shown_slots slots) name)
unfound None slots name a h = no_slot_is slots name a (not_found (stored slots name) h)
unfound (Some answer) slots name a h = tt

-- a name isn't both
pub not_both : (v : State) (name : List ℕ) (slot : Slot) → IsSlotOf v name slot → HasNoSlot v name → ⊥
not_both v name slot is not = let kept = ap length is.named in let more = not.unnamed in
    absurd (omega (arith, kept, more))

not_stored : (slots : List (List ℕ × Slot)) (name : List ℕ) → slots_map slots → HasNoSlot (shown_slots slots) name →
    stored slots name ≡ None
not_stored slots name a not = by_cases (stored slots name) refl
  where
    by_cases : (o : Option Slot) → stored slots name ≡ o → o ≡ None
    by_cases None e = refl
    by_cases (Some slot) e = absurd (not_both (shown_slots slots) name slot (slot_is slots name slot a e) not)

-- ---- what a state has of a name

pub held_is : (v : State) (name : List ℕ) (slot : Slot) → IsSlotOf v name slot → slot_held slot ≡ held_at v name
unfolding slot_held
held_is v name slot is = λ i. record { key = is.key i; number = λ c. is.number c i }

pub held_is_nothing : (v : State) (name : List ℕ) → HasNoSlot v name → empty_held ≡ held_at v name
unfolding empty_held
held_is_nothing v name not = λ i. record { key = sym not.key i; number = λ c. sym (not.number c) i }

pub reader_shows : (v : State) (name : List ℕ) (o : Option (Bor Slot)) → IfSome o (λ s. IsSlotOf v name s.now) →
    IfNone o (HasNoSlot v name) → stored_held slot_held o ≡ held_at v name
reader_shows v name None some none = held_is_nothing v name none
reader_shows v name (Some s) some none = held_is v name s.now some

held_budget : (v : State) (name : List ℕ) (term : ℕ) → budget_under (v.key name) (cell_of v name) term ≡ budget_of v
    name term
held_budget v name term = by_key (v.key name)
  where
    by_key : (k : Option KeyValue) → budget_under k (cell_of v name) term ≡ states.budget_under v name term k
    by_key None = refl
    by_key (Some key) = refl

-- the rights by what is held are those of the state
pub held_rights : (v : State) (name : List ℕ) (term node : ℕ) →
    rights_of_key (v.key name) (cell_of v name) term node ≡ rights_of v name term node
held_rights v name term node = ap (λ (o : Option Budget). option_map_or (λ b. rights b node) o (pos 0))
    (held_budget v name term)

pub budget_is : (v : State) (name : List ℕ) (slot : Slot) → IsSlotOf v name slot → (term : ℕ) →
    budget_under (slot_key slot) (slot_number slot) term ≡ budget_of v name term
budget_is v name slot is term = (λ i. budget_under (is.key i) (λ c. is.number c i) term) ∙ held_budget v name term

pub rights_are : (v : State) (name : List ℕ) (slot : Slot) → IsSlotOf v name slot → (term node : ℕ) →
    slot_rights slot term node ≡ rights_of v name term node
rights_are v name slot is term node = ap (λ (o : Option Budget). option_map_or (λ b. rights b node) o (pos 0))
    (budget_is v name slot is term)

pub spent_is : (v : State) (name : List ℕ) (slot : Slot) → IsSlotOf v name slot → (term : ℕ) →
    option_map_or total_spent (budget_under (slot_key slot) (slot_number slot) term) 0 ≡ spent_of v name term
spent_is v name slot is term = ap (λ (o : Option Budget). option_map_or total_spent o 0) (budget_is v name slot is term)

pub no_budget : (v : State) (name : List ℕ) → HasNoSlot v name → (term : ℕ) → budget_of v name term ≡ None
no_budget v name not term = ap (λ (o : Option KeyValue). states.budget_under v name term o) not.key

pub hits_are : (v : State) (name : List ℕ) (slot : Slot) → IsSlotOf v name slot →
    sum_below node_numbers (λ node. slot_number slot (Hits node)) ≡ total_hits v name
hits_are v name slot is = ap (λ (f : ℕ → ℕ). sum_below node_numbers f) (λ i node. is.number (Hits node) i)

pub grants_are : (v : State) (name : List ℕ) (slot : Slot) → IsSlotOf v name slot → (term : ℕ)
    → sum_below node_numbers (λ node. slot_number slot (Shifts term node node)) ≡ granted_of v name term
grants_are v name slot is term = ap (λ (f : ℕ → ℕ). sum_below node_numbers f)
    (λ i node. is.number (Shifts term node node) i)

-- ---- what a change writes

-- what means nothing holds nothing
held_nothing : (x : Slot) → slots_order x no_slot → slot_held x ≡ empty_held
unfolding slot_held empty_held
held_nothing x bottom = λ i. record { key = keyless x bottom i; number = λ c. none c i }
  where
    none : (c : Counted) → slot_number x c ≡ 0
    none (Hits node) = let low = hitless x bottom node in low
    none (Execs term node) = ap (λ (o : Option (Key × Budgets)). under_key o (Execs term node))
        (no_first x.parts.first bottom.0)
    none (Shifts term from to) = ap (λ (o : Option (Key × Budgets)). under_key o (Shifts term from to))
        (no_first x.parts.first bottom.0)

pub keyed_is_something : (h : Held) → IsSome h.key → h ≢ empty_held
unfolding empty_held
keyed_is_something h has e = by_key h.key has (ap (λ (k : Held). k.key) e)
  where
    by_key : (o : Option KeyValue) → IsSome o → o ≡ None → ⊥
    by_key None h k = true≢false (sym h)
    by_key (Some key) h k = let impossible : ◌≡◌ {A = Option KeyValue} (Some key) None = k in cc

pub changes_slot : {R : Type 0} (call : Slot → R → Slot → Type 0) (old new : List (List ℕ × Slot)) (name : List ℕ)
    (answer : R) → slots_map old → slots_map new →
    ChangesOnly (slice_cmp nat_cmp) are_slots slots_order no_slot call old new name answer →
    ChangesSlot call (shown_slots old) (shown_slots new) name answer
changes_slot call old new name answer a b changed = record {
  before = changed.held;
  after = changed.left;
  is_stored = slot_is old name changed.held a changed.found;
  is_called = changed.called;
  written = λ some. changed_to old new name changed.left (slot_held changed.left) a b changed.put
      (λ bottom. some (held_nothing changed.left bottom)) refl;
  unchanged = λ e. unchanged_slots old new name changed.held changed.left a b changed.found changed.put e;
}

pub change_is : {R : Type 0} (call : Slot → R → Slot → Type 0) (old new : List (List ℕ × Slot)) (name : List ℕ)
    (o : Option R) → slots_map old → slots_map new →
    IfSome o (ChangesOnly (slice_cmp nat_cmp) are_slots slots_order no_slot call old new name) →
    IfSome o (ChangesSlot call (shown_slots old) (shown_slots new) name)
change_is call old new name None a b h = tt
change_is call old new name (Some answer) a b h = changes_slot call old new name answer a b h

pub added_slot : (old new : List (List ℕ × Slot)) (name : List ℕ) (slot : Slot) → slots_map old → slots_map new →
    HasNoSlot (shown_slots old) name → slot_held slot ≢ empty_held →
    RaisesOnly (slice_cmp nat_cmp) are_slots slots_order no_slot old new name slot →
    shown_slots new ≡ with_held name (slot_held slot) (shown_slots old)
added_slot old new name slot a b not some raises = added_to old new name slot (slot_held slot) a b
    (not_stored old name a not) raises (λ bottom. some (held_nothing slot bottom)) refl

-- where a call left this of what was there, the state holds this of what it held
pub writes : {R : Type 0} (call : Slot → R → Slot → Type 0) (v w : State) (name : List ℕ) (answer : R)
    (changed : ChangesSlot call v w name answer) (f : Held → Held) →
    slot_held changed.after ≡ f (slot_held changed.before) → f (held_at v name) ≢ empty_held →
    w ≡ with_held name (f (held_at v name)) v
writes call v w name answer changed f e some =
    let now : slot_held changed.after ≡ f (held_at v name) = e ∙
    ap f (held_is v name changed.before changed.is_stored) in
    changed.written (λ none. some (sym now ∙ none)) ∙ ap (λ h. with_held name h v) now

pub no_hits : (v : State) (name : List ℕ) → HasNoSlot v name → total_hits v name ≡ 0
no_hits v name not = sum-zero node_numbers (v.hits name) (λ node. not.number (Hits node))

pub no_grants : (v : State) (name : List ℕ) → HasNoSlot v name → (term : ℕ) → granted_of v name term ≡ 0
no_grants v name not term = sum-zero node_numbers (λ node. v.shifts name term node node)
    (λ node. not.number (Shifts term node node))

-- ---- what a key, a pass or a shift leaves is something

pub taken_is_something : (key : KeyValue) (h : Held) → held_after_key key h ≢ empty_held
unfolding held_after_key
taken_is_something key h = keyed_is_something (held_after_key key h) refl

pub passed_is_something : (node : ℕ) (spent : Option ℕ) (h : Held) → IsSome h.key →
    held_after_pass node spent h ≢ empty_held
unfolding held_after_pass
passed_is_something node spent h set = keyed_is_something (held_after_pass node spent h) set

pub counted_is_something : (count : Count) (h : Held) → IsSome h.key → held_after_count count h ≢ empty_held
unfolding held_after_count
counted_is_something count h set = keyed_is_something (held_after_count count h) set

-- ---- what a test of a look-up says

pub none_by_test : {P : Type 0} (o : Option (Bor Slot)) → is_some o ≡ false → IfNone o P → P
none_by_test None e h = h
none_by_test (Some slot) e h = absurd (true≢false e)

-- what was found is changed
pub by_change : {R G : Type 0} (v : State) (name : List ℕ) {P : R → Type 0} (o : Option (Bor Slot)) (r : Option R) →
    is_some o ≡ true → IfSome o (λ slot. IsSlotOf v name slot.now) → IfNone r (HasNoSlot v name) → ((a : R) → P a → G) →
    IfSome r P → G
by_change v name None r e is not then h = absurd (true≢false (sym e))
by_change v name (Some slot) None e is not then h = absurd (not_both v name slot.now is not)
by_change v name (Some slot) (Some answer) e is not then h = then answer h
