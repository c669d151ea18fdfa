use Rattle.std.specs.Prelude.{◌≡◌, ◌+◌, ℕ, OnOk, Option, Some}
use Rattle.std.proofs.Common.{◌∙◌, ap, refl, rules, sym}
use Rattle.lattice_laws.specs.Pair.{pair_of}
use Rattle.stamp_register.specs.declared.key.Key.{Key}
use Rattle.operations.specs.declared.counted.Counted.{Counted}
use Rattle.operations.specs.declared.counted.Counted.TheVariants.{Hits, Execs, Shifts}
use Rattle.operations.specs.declared.counted.Count.{Count}
use Rattle.replica_state.specs.Points.{Raises, raised_numbers}
use Rattle.replica_state.specs.declared.slot.Slot.{Slot}
use Rattle.replica_state.specs.Slots.{Budgets, budgets_number, slot_number, under_key}
use Rattle.replica_state.proofs.Learned.{on_ok}
use Rattle.replica_state.proofs.slot.execute.Goals as goal

-- the next execution of a term
abbrev next : (Counted → ℕ) → ℕ → ℕ → Option Count
next f term node = Some (record { counted = Execs term node; number = f (Execs term node) + 1 })

-- what changes of the budgets changes of the slot
executed : (old : Slot) (first : Option (Key × Budgets)) (key : Key) (held left : Budgets) (term node : ℕ) →
    old.parts.first ≡ Some (key, held) → first ≡ Some (key, left) →
    Raises (budgets_number held) (budgets_number left) (next (budgets_number held) term node) →
    Raises (slot_number old) (slot_number (record { parts = pair_of first old.parts.second }))
    (next (slot_number old) term node)
executed old first key held left term node found put h = at
  where
    under : (d : Counted) → under_key first d ≡ raised_numbers
        (Some (record { counted = Execs term node; number = under_key old.parts.first (Execs term node) + 1 }))
        (under_key old.parts.first) d
    under d = ap (λ o. under_key o d) put ∙ h d ∙ ap (λ o. raised_numbers
        (Some (record { counted = Execs term node; number = under_key o (Execs term node) + 1 })) (under_key o) d)
        (sym found)

    at : (d : Counted) → slot_number (record { parts = pair_of first old.parts.second }) d ≡ raised_numbers
        (Some (record { counted = Execs term node; number = slot_number old (Execs term node) + 1 })) (slot_number old)
        d
    at (Hits j) = refl
    at (Execs t j) = under (Execs t j)
    at (Shifts t i o) = under (Shifts t i o)

pub returns-in-Some-clause-ok : goal.returns-in-Some-clause-ok
returns-in-Some-clause-ok c =
    let changed = c.in-Some.ensures.changed in
    let called = changed.called in
    let met = called.met in
    let shows = called.shows in
    let leaves = called.leaves in
    let wrote : OnOk c.in-Some.executed (Raises (budgets_number changed.held) (budgets_number changed.left)
    (Some (record {
      counted = Execs c.args.term c.args.node;
      number =
          budgets_number changed.held (Execs c.args.term c.args.node) + 1;
    }))) = search rules in
    on_ok c.in-Some.executed (executed c.args.slot.now c.change.new.self changed.key changed.held changed.left
    c.args.term c.args.node changed.found changed.put) wrote
