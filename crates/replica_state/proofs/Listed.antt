-- What is listed of the points of a replica, one after the other, is what it has of their names.
use Rattle.std.proofs.Common.{◌≡◌, ℕ, cond, false, List, [], ◌∷◌, Some, ◌∙◌, ap}
use Rattle.std.proofs.lemmas.Cmp.{nat_list_cmp_total, tied_itself}
use Rattle.std.specs.List.{AllByRecursion}
use Rattle.std.specs.List.Sorted.{IsStrictlySortedBy}
use Rattle.std.specs.Map.{keys_of}
use Rattle.std.specs.Ordering.{nat_cmp, is_eq, ordering_reverse}
use Rattle.std.specs.Cmp.Lexicographic.{slice_cmp}
use Rattle.std.specs.declared.cmp.Ordering.TheVariants.{Less}
use Rattle.replica_state.specs.Cells.{held_at}
use Rattle.replica_state.specs.declared.slot.Slot.{Slot}
use Rattle.replica_state.specs.Slots.{slot_held, shown_slots}
use Rattle.replica_state.specs.MatrixOrder.{slots_map}
use Rattle.replica_state.proofs.Slots.{stored}
use Rattle.replica_state.proofs.StoredSlots.{slot_is, held_is}

apart : (a b : List ℕ) → slice_cmp nat_cmp a b ≡ Less → is_eq (slice_cmp nat_cmp b a) ≡ false
apart a b e = ap is_eq (nat_list_cmp_total.antisymm b a ∙ ap ordering_reverse e)

-- of each entry of a map what is stored at its name is its value
pub all_stored : {X : Type 0} (es : List (List ℕ × X)) → IsStrictlySortedBy (slice_cmp nat_cmp) (keys_of es) →
    AllByRecursion (λ e. stored es e.0 ≡ Some e.1) es
unfolding IsStrictlySortedBy
all_stored [] up = tt
all_stored {X} (e ∷ es) up = (first, later es up.0 (all_stored es up.1))
  where
    first : stored (e ∷ es) e.0 ≡ Some e.1
    first = ap (λ b. cond b (Some e.1) (stored es e.0)) (ap is_eq (tied_itself nat_list_cmp_total e.0))

    later : (xs : List (List ℕ × X)) → AllByRecursion (λ m. slice_cmp nat_cmp e.0 m ≡ Less) (keys_of xs) →
        AllByRecursion (λ x. stored es x.0 ≡ Some x.1) xs → AllByRecursion (λ x. stored (e ∷ es) x.0 ≡ Some x.1) xs
    later [] low h = tt
    later (x ∷ xs) low h = (ap (λ b. cond b (Some e.1) (stored es x.0)) (apart e.0 x.0 low.0) ∙ h.0, later xs low.1 h.1)

-- of each slot of a matrix what it holds is what the matrix shows of its name
pub slots_listed : (slots : List (List ℕ × Slot)) → slots_map slots →
    AllByRecursion (λ e. slot_held e.1 ≡ held_at (shown_slots slots) e.0) slots
slots_listed slots a = each slots (all_stored slots a.ordered)
  where
    each : (xs : List (List ℕ × Slot)) → AllByRecursion (λ e. stored slots e.0 ≡ Some e.1) xs →
        AllByRecursion (λ e. slot_held e.1 ≡ held_at (shown_slots slots) e.0) xs
    each [] h = tt
    each (x ∷ xs) h = (held_is (shown_slots slots) x.0 x.1 (slot_is slots x.0 x.1 a h.0), each xs h.1)
