use Rattle.std.specs.Prelude.{◌≡◌, ◌<◌, ◌+◌, ◌^◌, length, slice_index}
use Rattle.std.proofs.Common.{ap, arith, rules, sym, ◌∙◌}
use Rattle.counters.specs.Sums.{sum_below}
use Rattle.counters.specs.Cells.{cell}
use Rattle.counters.proofs.CellLemmas.{cell-read, total-below, total-kept}
use Rattle.counters.proofs.SumLemmas.{sum-next}
use Rattle.counters.proofs.cells.total.Goals as goal

-- the numbers so far are few enough to fit
pub overflow_add-sum : goal.overflow_add-sum
overflow_add-sum c =
    let few = total-below c.args.cells.now c.as_slice-number-items.ensures.numbers c.loop-number.number-index
    (omega (arith, c.as_slice-number-items.ensures.numbers.few, ap length c.as_slice-number-items.ensures.kept)) in
    let fits : c.loop-number.sum + c.from-sum.result < 2 ^ 128 = omega (arith, few, c.loop-number.invariant) in
    omega arith

pub loop-number-preserved : goal.loop-number-preserved
loop-number-preserved c =
    let cells = c.args.cells.now in
    let index = c.loop-number.number-index in
    let read : c.from-sum.result ≡ slice_index c.as_slice-number-items.result.now index = search rules in
    let here : c.from-sum.result ≡ cell cells index =
    read ∙ ap (λ xs. slice_index xs index) c.as_slice-number-items.ensures.kept ∙ cell-read cells index in
    let next = sum-next index (cell cells) in
    omega (arith, here, next, c.loop-number.invariant)

pub returns-clause-value : goal.returns-clause-value
returns-clause-value c =
    let kept = total-kept c.args.cells.now c.as_slice-number-items.ensures.numbers in
    let end : c.loop-number.number-index ≡ length c.args.cells.now =
    omega (
      arith,
      c.loop-number-test.false,
      c.loop-number.auto.number-index-end,
      ap length c.as_slice-number-items.ensures.kept,
    ) in
    c.loop-number.invariant ∙ ap (λ n. sum_below n (cell c.args.cells.now)) end ∙ sym kept

pub returns-clause-small : goal.returns-clause-small
returns-clause-small c =
    let few = total-below c.args.cells.now c.as_slice-number-items.ensures.numbers c.loop-number.number-index
    (omega (arith, c.as_slice-number-items.ensures.numbers.few, ap length c.as_slice-number-items.ensures.kept)) in
    omega (arith, few, c.loop-number.invariant)
