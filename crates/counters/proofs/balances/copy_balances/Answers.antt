use Rattle.std.specs.Prelude.{length, get_or, pos}
use Rattle.std.proofs.Common.{arith, sym, ◌∙◌, ⊎_elim}
use Rattle.std.proofs.lemmas.Bool.{cases_lt}
use Rattle.std.proofs.lemmas.List.{get_or_past}
use Rattle.std.proofs.lemmas.List.FromFn.{fill_by_all}
use Rattle.counters.proofs.balances.copy_balances.Goals as goal

pub returns : goal.returns
returns c =
    let n = length c.args.into.now in
    let known = c.args.balances.now in
    fill_by_all (λ i. get_or known i (pos 0)) c.loop-place.into n (pos 0)
    (c.loop-place.invariant.len ∙ c.fill.ensures.len)
    (λ i low. ⊎_elim (λ before. c.loop-place.invariant.read i before)
    (λ past. c.loop-place.invariant.left i past
    (omega (arith, low, c.loop-place.invariant.len, c.fill.ensures.len))
    ∙ sym (get_or_past known i (pos 0) (omega (arith, past, low, c.fill.ensures.len))))
    (cases_lt i c.loop-place.place))
