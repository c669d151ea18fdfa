use Rattle.std.proofs.Common.{◌≡◌, ◌<◌, ◌+◌, ◌-◌, ℕ, Bool, true, length, get_or, arith, subst, sym, ⊎_elim}
use Rattle.std.specs.Prelude.{nat_lt, slice_index}
use Rattle.std.specs.List.Sorted.{IsNonDecreasingBy}
use Rattle.std.proofs.lemmas.Bool.{cases_eq}
use Rattle.std.proofs.lemmas.List.Sums.{position_or_len_is}
use Rattle.sharing.proofs.Lines.{is_more, no_more}
use Rattle.sharing.proofs.line.place_in.Goals as goal

pub loop-place-preserved : goal.loop-place-preserved
loop-place-preserved c = λ k low high.
    let e = slice_index c.args.executions.now in
    let line = c.args.line.now in
    let last = c.loop-place.place - 1 in
    ⊎_elim
    (λ same. subst (λ j. nat_lt (e c.args.node) (e (get_or line j 0)) ≡ true) (sym same)
    (is_more (e c.args.node) (e (get_or line last 0)) _ _ c.number_at-own.ensures c.number_at.ensures
    c.if-number_at-own.false))
    (λ ne. c.loop-place.invariant k (omega (arith, low, ne, c.loop-place-test.true)) high)
    (cases_eq k last)

pub returns-then-number_at-own-clause-place : goal.returns-then-number_at-own-clause-place
returns-then-number_at-own-clause-place c =
    let e = slice_index c.args.executions.now in
    let line = c.args.line.now in
    let last = c.loop-place.place - 1 in
    let later : ℕ → Bool = λ other. nat_lt (e c.args.node) (e other) in
    let sorted : IsNonDecreasingBy e line = c.requires in
    let inside : last < length line = omega (arith, c.loop-place-test.true, c.loop-place.auto.place) in
    sym (position_or_len_is later line (last + 1) 0 (omega (arith, inside))
    (λ k low. let rises = sorted k last 0 (omega (arith, low)) inside in
    no_more (e c.args.node) (e (get_or line k 0))
    (omega (arith, rises, c.number_at-own.ensures, c.number_at.ensures, c.if-number_at-own.true)))
    (λ more. c.loop-place.invariant (last + 1) (omega (arith, c.loop-place-test.true)) more))

pub returns-clause-place : goal.returns-clause-place
returns-clause-place c =
    let e = slice_index c.args.executions.now in
    let later : ℕ → Bool = λ other. nat_lt (e c.args.node) (e other) in
    sym (position_or_len_is later c.args.line.now 0 0 (omega arith) (λ k low. absurd (omega (arith, low)))
    (λ more. c.loop-place.invariant 0 (omega (arith, c.loop-place-test.false)) more))
