use Rattle.std.specs.Prelude.{◌≡◌, ◌<◌, ℕ, length, max}
use Rattle.std.proofs.Common.{arith, refl, subst}
use Rattle.counters.specs.Cells.{Shares, WritesRowCell, row_cell}
use Rattle.counters.proofs.BalanceLemmas.{longer-balances}
use Rattle.counters.proofs.MovedBalances.{moved-written}
use Rattle.counters.proofs.ledger.Ledger.raise_moved.Goals as goal

pub invariant_of-self : goal.invariant_of-self
invariant_of-self c =
    let l = c.self.inside in
    longer-balances l.shares l.balances c.make_place.new.self c.self.invariant c.make_place.ensures.longer
    c.make_place.ensures.few

pub invariant_of-self-in_err-make_place-2 : goal.invariant_of-self-in_err-make_place-2
invariant_of-self-in_err-make_place-2 c =
    let l = c.self.inside in
    let few = c.make_place.ensures.few in
    let first = longer-balances l.shares l.balances c.make_place.new.self c.self.invariant
    c.make_place.ensures.longer few in
    longer-balances l.shares c.make_place.new.self c.make_place-2.new.self first
    c.make_place-2.ensures.longer c.make_place-2.ensures.few

pub invariant_of-self-in_err-raise_row : goal.invariant_of-self-in_err-raise_row
invariant_of-self-in_err-raise_row c =
    let l = c.self.inside in
    let few = c.make_place.ensures.few in
    let first = longer-balances l.shares l.balances c.make_place.new.self c.self.invariant
    c.make_place.ensures.longer few in
    rw (c.in_err-raise_row.ensures.err)
    (longer-balances l.shares c.make_place.new.self c.make_place-2.new.self first
    c.make_place-2.ensures.longer c.make_place-2.ensures.few)

pub invariant_of-self-2 : goal.invariant_of-self-2
invariant_of-self-2 c =
    let l = c.self.inside in
    let from = c.args.from in
    let to = c.args.to in
    let total = c.args.total in
    let items = c.make_place-2.new.self in
    let new = c.move_between.new.self in
    let after : Shares = record { first = l.shares.first; second = c.raise_row.new.rows } in
    let few = c.make_place.ensures.few in
    let first = longer-balances l.shares l.balances c.make_place.new.self c.self.invariant
    c.make_place.ensures.longer few in
    let longer = longer-balances l.shares c.make_place.new.self items first c.make_place-2.ensures.longer
    c.make_place-2.ensures.few in
    let before = c.number_in_row-before.ensures in
    let less = c.if-total-before.false in
    let number : max (row_cell l.shares.second from to) total ≡ total = omega arith in
    let writes : WritesRowCell l.shares.second c.raise_row.new.rows from to total =
    subst (λ (n : ℕ). WritesRowCell l.shares.second c.raise_row.new.rows from to n) number c.in_ok-raise_row.ensures.ok in
    let len = c.make_place-2.ensures.longer.len in
    let has_from : from < length items = omega (arith, c.in_ok-make_place.ensures.ok, len) in
    moved-written l.shares after items new from to total c.number_in_row-before.result longer refl writes before
    (omega arith) has_from c.in_ok-make_place-2.ensures.ok c.move_between.ensures c.are_small.ensures
