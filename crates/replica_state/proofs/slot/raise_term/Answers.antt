use Rattle.std.specs.Prelude.{OnOk}
use Rattle.std.proofs.Common.{◌≡◌, rules}
use Rattle.replica_state.specs.Slots.{IsShareRaised}
use Rattle.replica_state.proofs.Learned.{on_ok, always_err}
use Rattle.replica_state.proofs.SlotLemmas.{put_raised, new_raised, absent_at, not_found}
use Rattle.replica_state.proofs.slot.raise_term.Goals as goal

pub returns-in-Some-clause-ok : goal.returns-in-Some-clause-ok
returns-in-Some-clause-ok c =
    let changed = c.in-Some.ensures.changed in
    let called = changed.called in
    let met = called.met in
    let shows = called.shows in
    let leaves = called.leaves in
    let wrote : OnOk c.in-Some.raised (IsShareRaised changed.held changed.left c.args.count.counted
    c.args.count.number) = search rules in
    on_ok c.in-Some.raised (λ w. put_raised c.args.budgets.now c.change.new.self c.args.term c.args.count.number
    c.args.count.counted changed.held changed.left c.requires changed.found w changed.put) wrote

pub returns-in_ok-raise_share-in-None-clause-ok : goal.returns-in_ok-raise_share-in-None-clause-ok
returns-in_ok-raise_share-in-None-clause-ok c =
    let wrote = rw c.new-budget.ensures at c.in_ok-raise_share-in-None.ensures.ok in
    let same : c.change.new.self ≡ c.args.budgets.now = c.in-None.ensures.absent in
    on_ok c.raise.result (λ raises. new_raised c.args.budgets.now c.raise.new.self c.args.term c.args.count.number
    c.args.count.counted c.raise_share.new.budget c.requires (not_found _ c.in-None.ensures.found.1) wrote raises)
    (rw same at c.raise.ensures.ok)

pub returns-in_ok-raise_share-in-None-clause-absent : goal.returns-in_ok-raise_share-in-None-clause-absent
returns-in_ok-raise_share-in-None-clause-absent c = always_err c.raise.result
    (absent_at c.args.budgets.now c.args.term (not_found _ c.in-None.ensures.found.1) c.args.count.counted c.requires)
