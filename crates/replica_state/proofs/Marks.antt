-- Marks of the terms that a node has a right to execute, as a loop over the terms makes them.
use Rattle.std.proofs.Common.{◌≡◌, ℕ, ◌+◌, ◌≤◌, ◌<◌, Bool, true, false, List, [], ◌∷◌, length, slice_index_or, slice_set, refl, sym, ◌∙◌, subst, ap, arith, zero, suc, below_more, Option, Some, None}
use Rattle.std.proofs.lemmas.Bool.{true≢false}
use Rattle.std.proofs.lemmas.Bool.Decides.{nat_tests}
use Rattle.std.proofs.lemmas.List.{get_or-set_same, get_or-set_other}
use Rattle.std.proofs.lemmas.Int.{ints}
use Rattle.std.proofs.Math.ListN.{length-set}
use Rattle.std.specs.Prelude.{ℤ, pos, ◌≤ℤ◌, ◌↔◌, IsTrue, nat_le, not, IfSome, option_map}
use Rattle.std.specs.List.{list_all}
use Rattle.std.specs.Option.{option_map_or}
use Rattle.counters.specs.Budgets.{Budget, rights}
use Rattle.stamp_register.specs.Keys.{KeyValue}
use Rattle.operations.specs.Operations.{count_of}
use Rattle.replica_state.specs.States.{State, budget, budget_under, rights_of, MarksRights}
use Rattle.replica_state.specs.Points as points
use Rattle.replica_state.specs.Points.{budget_in}
use Rattle.replica_state.specs.declared.slot.Slot.{Slot}
use Rattle.replica_state.specs.Slots.{slot_key, slot_number, slot_rights}

-- a mark stands where there is a right to execute the term
abbrev pub IsMark : ℤ → Bool → Type 0
IsMark amount mark = IsTrue mark ↔ (pos 1 ≤ℤ amount)

-- the terms so far are marked so, and none behind them is
pub record AreMarked (rights : ℕ → ℤ) (upto : ℕ) (marks : List Bool) : Type 0 where
  pub len : length marks ≡ 16
  pub marked : (j : ℕ) → j < upto → IsMark (rights j) (slice_index_or marks j false)
  pub unmarked : (j : ℕ) → upto ≤ j → slice_index_or marks j false ≡ false

none_at : (marks : List Bool) → list_all not marks ≡ true → (j : ℕ) → slice_index_or marks j false ≡ false
none_at [] e j = refl
none_at (false ∷ marks) e zero = refl
none_at (false ∷ marks) e (suc j) = none_at marks e j
none_at (true ∷ marks) e j = absurd (true≢false (sym e))

pub none_marked : (rights : ℕ → ℤ) (marks : List Bool) → length marks ≡ 16 → list_all not marks ≡ true →
    AreMarked rights 0 marks
none_marked rights marks len none = record {
  len = len;
  marked = λ j below. absurd (omega arith);
  unmarked =
      λ j past. none_at marks none j;
}

pub one_more : (rights : ℕ → ℤ) (upto : ℕ) (marks : List Bool) (mark : Bool) → upto < 16 → IsMark (rights upto) mark →
    AreMarked rights upto marks → AreMarked rights (upto + 1) (slice_set marks upto mark)
one_more rights upto marks mark low is h =
    record {
      len = rw length-set h.len;
      marked = below_more _ _
          (λ j below. subst (λ b. IsMark (rights j) b) (sym (get_or-set_other marks upto j mark false
          (λ e. omega arith))) (h.marked j below))
          (subst (λ b. IsMark (rights upto) b) (sym (get_or-set_same marks upto mark false
          (let len = h.len in omega (arith, len)))) is);
      unmarked = λ j past. get_or-set_other marks upto j mark false (λ e. omega arith) ∙ h.unmarked j (omega arith);
    }

-- no term behind those that are marked has a right
pub all_marked : (rights : ℕ → ℤ) (upto : ℕ) (marks : List Bool) → AreMarked rights upto marks →
    ((j : ℕ) → upto ≤ j → rights j ≡ pos 0) → MarksRights rights marks
all_marked rights upto marks h none j = by_test (nat_le upto j) refl
  where
    by_test : (t : Bool) → nat_le upto j ≡ t → IsMark (rights j) (slice_index_or marks j false)
    by_test false e = h.marked j (grind (arith, nat_tests))
    by_test true e =
        let past : upto ≤ j = grind (arith, nat_tests) in (
          λ t. absurd (true≢false (sym t ∙ h.unmarked j past)),
          λ more. absurd (let impossible : pos 1 ≤ℤ pos 0 = subst (λ (z : ℤ). pos 1 ≤ℤ z) (none j past) more in
              omega (arith, ints)),
        )

-- where the rights are the same, the same is marked
pub marks_same : {K : Type 0} (o : Option (K × List Bool)) (here there : ℕ → ℤ) →
    ((term : ℕ) → here term ≡ there term) → IfSome o (λ p. MarksRights here p.1) → IfSome o (λ p. MarksRights there p.1)
marks_same None here there same h = h
marks_same (Some p) here there same h = λ term. subst (λ (z : ℤ). IsMark z (slice_index_or p.1 term false)) (same term)
    (h term)

-- ---- the rights of a slot, and those of a state

-- no term that the key doesn't count has rights
pub no_slot_rights : (slot : Slot) (key : KeyValue) (term node : ℕ) → slot_key slot ≡ Some key →
    count_of key term ≡ None → slot_rights slot term node ≡ pos 0
no_slot_rights slot key term node held none =
    ap (λ (o : Option KeyValue). option_map_or (λ (b : Budget). rights b node)
    (points.budget_under o (slot_number slot) term) (pos 0)) held
    ∙ ap (λ (o : Option ℕ). option_map_or (λ (b : Budget). rights b node)
    (option_map (λ n. budget_in (slot_number slot) term key.node n) o) (pos 0)) none

pub no_rights : (v : State) (name : List ℕ) (key : KeyValue) (term node : ℕ) → v.key name ≡ Some key →
    count_of key term ≡ None → rights_of v name term node ≡ pos 0
no_rights v name key term node held none =
    ap (λ (o : Option KeyValue). option_map_or (λ (b : Budget). rights b node) (budget_under v name term o) (pos 0))
    held
    ∙ ap (λ (o : Option ℕ). option_map_or (λ (b : Budget). rights b node)
    (option_map (λ n. budget v name term key.node n) o) (pos 0)) none
