use Rattle.std.specs.Prelude.{◌<◌, ◌^◌, ◌≤ℤ◌, ◌+ℤ◌, ℕ, ℤ, length, get_or, pos}
use Rattle.std.proofs.Common.{ap, arith, subst, sym, ◌∙◌}
use Rattle.std.proofs.lemmas.List.FromFn.{get_or-map-range_with_len, length-map-range_with_len}
use Rattle.counters.proofs.BalanceLemmas.{balances-read}
use Rattle.counters.proofs.Columns.{within-places}
use Rattle.counters.proofs.ledger.Ledger.write_balances.Goals as goal

pub returns-clause-balances : goal.returns-clause-balances
returns-clause-balances c =
    let l = c.self.inside in
    rw (← c.self.view_is)
    (balances-read l.shares l.balances c.write_to.new.into (length c.args.into.now) c.self.invariant
    c.write_to.ensures)

pub returns-clause-small : goal.returns-clause-small
returns-clause-small c =
    let l = c.self.inside in
    let n = length c.args.into.now in
    let read : ℕ → ℤ = λ i. get_or l.balances i (pos 0) in
    let told = c.write_to.ensures in
    let long = ap length told ∙ length-map-range_with_len read 0 n in
    within-places _ c.write_to.new.into
    (λ i low. let inside : i < n = omega (arith, low, long) in
    subst (λ (b : ℤ). (pos 0 ≤ℤ (b +ℤ pos (2 ^ 100))) × (b ≤ℤ pos (2 ^ 100)))
    (sym (ap (λ xs. get_or xs i (pos 0)) told
    ∙ get_or-map-range_with_len read 0 n i i (pos 0) inside (omega arith)))
    (c.self.invariant.small i))
