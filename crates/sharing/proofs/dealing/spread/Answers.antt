use Rattle.std.proofs.Common.{◌≡◌, ◌++◌, ℕ, List, ap, sym, ◌∙◌, arith}
use Rattle.std.specs.List.{flat_map, range_with_len}
use Rattle.actions.specs.Limits.{max_terms}
use Rattle.sharing.specs.declared.shift.Shift.{Shift}
use Rattle.sharing.specs.Spreads.{spread_of, term_dealt}
use Rattle.sharing.proofs.Walks.{flat_of_next}
use Rattle.sharing.proofs.dealing.spread.Goals as goal

pub loop-term-preserved : goal.loop-term-preserved
loop-term-preserved g c =
    let shifts : ℕ → List Shift =
    term_dealt (g.R.Replica.state c.args.replica.now) c.args.name.now c.args.node c.args.nodes in
    c.in_ok-push_dealt.ensures ∙ ap (λ xs. xs ++ shifts c.loop-term.term) c.loop-term.invariant
    ∙ sym (flat_of_next shifts c.loop-term.term)

pub returns : goal.returns
unfolding spread_of
returns g c =
    let shifts : ℕ → List Shift =
    term_dealt (g.R.Replica.state c.args.replica.now) c.args.name.now c.args.node c.args.nodes in
    let end : c.loop-term.term ≡ max_terms = omega (arith, c.loop-term-test.false, c.loop-term.auto.term-end) in
    c.loop-term.invariant ∙ ap (λ n. flat_map shifts (range_with_len 0 n)) end
