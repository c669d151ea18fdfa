use Rattle.std.specs.Prelude.{◌≡◌, ◌+◌, ℕ, max, OnOk}
use Rattle.std.proofs.Common.{◌∙◌, arith, refl, rules, subst, sym}
use Rattle.counters.specs.Cells.{Shares, WritesSpent, cell, no_shares, spent_cell}
use Rattle.operations.specs.declared.counted.Counted.TheVariants.{Execs}
use Rattle.replica_state.specs.Slots.{IsShareRaised, budgets_number}
use Rattle.replica_state.proofs.Learned.{on_ok}
use Rattle.replica_state.proofs.SlotLemmas.{put_raised, new_raised, absent_at, found_at, not_found}
use Rattle.replica_state.proofs.slot.execute_term.Goals as goal

-- one execution more is a number raised
executed : (old new : Shares) (term node number : ℕ) → spent_cell old node ≡ number →
    WritesSpent old new node (spent_cell old node + 1) → IsShareRaised old new (Execs term node) (number + 1)
executed old new term node number e w =
    let more : spent_cell old node + 1 ≡ max (spent_cell old node) (number + 1) = omega (arith, e) in
    subst (λ n. WritesSpent old new node n) more w

none_spent : (node : ℕ) → spent_cell no_shares node ≡ 0
unfolding cell
none_spent node = refl

pub returns-in-Some-clause-ok : goal.returns-in-Some-clause-ok
returns-in-Some-clause-ok c =
    let changed = c.in-Some.ensures.changed in
    let called = changed.called in
    let met = called.met in
    let shows = called.shows in
    let leaves = called.leaves in
    let counted = Execs c.args.term c.args.node in
    let was = found_at c.args.budgets.now c.args.term changed.held changed.found counted refl in
    let wrote : OnOk c.in-Some.executed (WritesSpent changed.held changed.left c.args.node
    (spent_cell changed.held c.args.node + 1)) = search rules in
    on_ok c.in-Some.executed (λ w. put_raised c.args.budgets.now c.change.new.self c.args.term
    (budgets_number c.args.budgets.now counted + 1) counted changed.held changed.left refl changed.found
    (executed changed.held changed.left c.args.term c.args.node _ (sym was) w) changed.put) wrote

pub returns-in_ok-execute_share-in-None-clause-ok : goal.returns-in_ok-execute_share-in-None-clause-ok
returns-in_ok-execute_share-in-None-clause-ok c =
    let counted = Execs c.args.term c.args.node in
    let none = not_found _ c.in-None.ensures.found.1 in
    let wrote = rw c.new-budget.ensures at c.in_ok-execute_share-in-None.ensures.ok in
    let was = absent_at c.args.budgets.now c.args.term none counted refl in
    let same : c.change.new.self ≡ c.args.budgets.now = c.in-None.ensures.absent in
    on_ok c.raise.result (λ raises. new_raised c.args.budgets.now c.raise.new.self c.args.term
    (budgets_number c.args.budgets.now counted + 1) counted c.execute_share.new.budget refl none
    (executed no_shares c.execute_share.new.budget c.args.term c.args.node _ (none_spent c.args.node ∙ sym was)
    wrote) raises) (rw same at c.raise.ensures.ok)
