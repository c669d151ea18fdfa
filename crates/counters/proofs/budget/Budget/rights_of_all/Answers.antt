use Rattle.std.specs.Prelude.{◌≡◌, ◌<◌, ◌≤◌, ◌==◌, ◌^◌, ℕ, List, cond, length, map, get_or, ℤ, pos, ◌+ℤ◌}
use Rattle.std.specs.List.{range_with_len}
use Rattle.std.proofs.Common.{ap, arith, subst, sym, ◌∙◌}
use Rattle.std.proofs.lemmas.Int.{ints}
use Rattle.std.proofs.lemmas.List.FromFn.{get_or-map-range_with_len, length-map-range_with_len}
use Rattle.counters.specs.Budgets.{rights}
use Rattle.counters.specs.Cells.{Shares, balance_of, budget_of}
use Rattle.counters.proofs.Columns.{added-is, rights-balance, with-count, without-count}
use Rattle.counters.proofs.budget.Budget.rights_of_all.Goals as goal

-- what was read and the count are the rights
read-is : (shares : Shares) (setter count n : ℕ) (read : List ℤ) → n ≤ 256 → read ≡ map (balance_of shares) (range_with_len 0 n)
    → (i : ℕ) → i < n → get_or read i (pos 0) +ℤ pos (cond (i == setter) count 0) ≡ rights (budget_of shares setter count) i
read-is shares setter count n read few is i low =
    let at : get_or read i (pos 0) ≡ balance_of shares i = ap (λ xs. get_or xs i (pos 0)) is
    ∙ get_or-map-range_with_len (balance_of shares) 0 n i i (pos 0) low (omega arith) in
    let all = rights-balance shares setter count i (omega (arith, low, few)) in
    omega (arith, ints)

pub returns-then-place-into : goal.returns-then-place-into
returns-then-place-into c =
    let shares = c.args.self.now in
    let setter = c.args.setter in
    let count = c.args.count in
    let n = length c.args.into.now in
    let place = c.from-place.result in
    let read = c.write_balances.new.into in
    let f : ℕ → ℤ = rights (budget_of shares setter count) in
    let is : read ≡ map (balance_of shares) (range_with_len 0 n) = rw (← c.self.view_is) c.write_balances.ensures.balances in
    let long : length read ≡ n = ap length is ∙ length-map-range_with_len (balance_of shares) 0 n in
    let small = c.write_balances.ensures.small place in
    let fits : count < 2 ^ 64 = omega arith in
    with-count f read place count n _ long (omega (arith, long, c.if-place-into.true))
    (added-is (get_or read place (pos 0)) c.from.result count c.from.ensures fits (omega (arith, ints)) (omega (arith, ints)))
    (λ i low. subst (λ p. get_or read i (pos 0) +ℤ pos (cond (i == p) count 0) ≡ f i) (sym c.from-place.ensures)
    (read-is shares setter count n read c.requires is i low))

pub returns-else-place-into : goal.returns-else-place-into
returns-else-place-into c =
    let shares = c.args.self.now in
    let setter = c.args.setter in
    let count = c.args.count in
    let n = length c.args.into.now in
    let read = c.write_balances.new.into in
    let is : read ≡ map (balance_of shares) (range_with_len 0 n) = rw (← c.self.view_is) c.write_balances.ensures.balances in
    let long : length read ≡ n = ap length is ∙ length-map-range_with_len (balance_of shares) 0 n in
    without-count (rights (budget_of shares setter count)) read setter count n long
    (omega (arith, long, c.if-place-into.false, c.from-place.ensures)) (read-is shares setter count n read c.requires is)
