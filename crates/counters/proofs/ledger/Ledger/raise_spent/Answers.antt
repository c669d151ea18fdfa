use Rattle.std.specs.Prelude.{◌≡◌, ◌<◌, ◌-◌, ◌^◌, ℤ, get_or, length, pos, ◌+ℤ◌, ◌-ℤ◌, ◌≤ℤ◌}
use Rattle.std.proofs.Common.{arith, subst, sym}
use Rattle.std.proofs.lemmas.Int.{ints}
use Rattle.counters.specs.Cells.{Shares, balance_of}
use Rattle.counters.proofs.BalanceLemmas.{longer-balances, spent-written}
use Rattle.counters.proofs.ledger.Ledger.raise_spent.Goals as goal

pub invariant_of-self : goal.invariant_of-self
invariant_of-self c =
    let l = c.self.inside in
    let made = c.make_place.ensures in
    longer-balances l.shares l.balances c.make_place.new.self c.self.invariant made.longer
    made.few

pub invariant_of-self-in_err-raise : goal.invariant_of-self-in_err-raise
invariant_of-self-in_err-raise c =
    let l = c.self.inside in
    let made = c.make_place.ensures in
    rw (c.in_err-raise.ensures.err)
    (longer-balances l.shares l.balances c.make_place.new.self c.self.invariant made.longer
    made.few)

pub invariant_of-self-2 : goal.invariant_of-self-2
invariant_of-self-2 c =
    let l = c.self.inside in
    let items = c.make_place.new.self in
    let node = c.args.node in
    let made = c.make_place.ensures in
    let after : Shares = record { first = c.raise.new.cells; second = l.shares.second } in
    let longer = longer-balances l.shares l.balances items c.self.invariant made.longer
    made.few in
    let place : node < length items = c.in_ok-make_place.ensures.ok in
    let writes = c.in_ok-raise.ensures.ok in
    let new : ℤ = get_or items node (pos 0) -ℤ pos (c.args.spent - c.number_of-before.result) in
    let is : new ≡ balance_of after node =
    let read = longer.read node place in
    let before = c.number_of-before.ensures in
    let more = c.if-spent-before.false in
    let number = writes.this_cell in
    omega (arith, ints)
    in
    rw (c.take.ensures)
    (spent-written l.shares c.raise.new.cells items node _ new longer place writes is
    (subst (λ (b : ℤ). (pos 0 ≤ℤ (b +ℤ pos (2 ^ 100))) × (b ≤ℤ pos (2 ^ 100))) (sym is) (c.are_small.ensures node)))
