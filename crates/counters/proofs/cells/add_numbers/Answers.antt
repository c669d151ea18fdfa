use Rattle.std.specs.Prelude.{◌<◌, ◌^◌, get_or, pos, slice_index}
use Rattle.std.proofs.Common.{◌≡◌, ◌+◌, ℕ, List, length, ap, arith, refl, rules, subst, sym, ◌∙◌, ⊎_elim}
use Rattle.std.proofs.lemmas.Bool.{cases_lt}
use Rattle.std.proofs.lemmas.Int.{ints}
use Rattle.counters.specs.Sums.{sum_below, AddsEach}
use Rattle.counters.proofs.Columns.{added-fits, added-is, all-added, place-added, within-places}
use Rattle.counters.proofs.CellLemmas.{cell-past, cell-read, total-below, total-kept}
use Rattle.counters.proofs.SumLemmas.{sum-next}
use Rattle.lattice_laws.specs.Numbers.{AreNumbers}
use Rattle.counters.specs.Cells.{Cells, cell}
use Rattle.counters.proofs.cells.add_numbers.Goals as goal

pub loop-place-init : goal.loop-place-init
loop-place-init c = record {
  added = record { len = refl; done = λ i low. absurd (omega (arith, low)); left = λ i high. refl; few = λ i low. absurd (omega (arith, low)) };
  total = refl;
}

-- what is counted before a place is few enough to fit
counted : (cells : Cells) → AreNumbers cells → (kept : List ℕ) → kept ≡ cells → (place total n : ℕ) → place < length kept →
    total ≡ sum_below place (cell cells) → n ≡ slice_index kept place →
    (total + n ≡ sum_below (place + 1) (cell cells)) × (total + n < 2 ^ 128)
counted cells h kept same place total n inside before is =
    let here : n ≡ cell cells place = is ∙ ap (λ xs. slice_index xs place) same ∙ cell-read cells place in
    let next = sum-next place (cell cells) in
    let few = total-below cells h (place + 1) (omega (arith, inside, ap length same, h.few)) in
    (omega (arith, here, next, before), omega (arith, here, next, before, few))

pub overflow_add-sums : goal.overflow_add-sums
overflow_add-sums c =
    let numbers = c.as_slice-numbers.result.now in
    let place = c.loop-place.place in
    let was = c.loop-place.invariant.added.left place (omega arith) in
    let low = (c.requires place).0 in
    let high = (c.requires place).1 in
    let number = c.number_at-number.ensures in
    let fits : slice_index numbers place < 2 ^ 64 = omega (arith, number, c.number_at-number.type_inv) in
    added-fits (get_or c.loop-place.sums place (pos 0)) c.from.result (slice_index numbers place) (search rules)
    fits (omega (arith, ints)) (omega (arith, ints))

pub overflow_add-total : goal.overflow_add-total
overflow_add-total c =
    let number : c.from-total.result ≡ slice_index c.as_slice-numbers.result.now c.loop-place.place = search rules in
    let fits = (counted c.args.cells.now c.as_slice-numbers.ensures.numbers c.as_slice-numbers.result.now
    c.as_slice-numbers.ensures.kept c.loop-place.place c.loop-place.total c.from-total.result (omega arith)
    c.loop-place.invariant.total number).1 in
    omega arith

pub loop-place-preserved : goal.loop-place-preserved
loop-place-preserved c =
    let numbers = c.as_slice-numbers.result.now in
    let place = c.loop-place.place in
    let was = c.loop-place.invariant.added.left place (omega arith) in
    let low = (c.requires place).0 in
    let high = (c.requires place).1 in
    let number = c.number_at-number.ensures in
    let fits : slice_index numbers place < 2 ^ 64 = omega (arith, number, c.number_at-number.type_inv) in
    let read : c.from-total.result ≡ slice_index numbers place = search rules in
    let more = counted c.args.cells.now c.as_slice-numbers.ensures.numbers numbers c.as_slice-numbers.ensures.kept place
    c.loop-place.total c.from-total.result (omega arith) c.loop-place.invariant.total read in
    record {
      added = place-added (slice_index numbers) c.args.sums.now c.loop-place.sums place _ (omega arith)
          (added-is (get_or c.loop-place.sums place (pos 0)) c.from.result (slice_index numbers place) (search rules)
          fits (omega (arith, ints)) (omega (arith, ints)))
          fits c.loop-place.invariant.added;
      total = omega (arith, more.0, more.1);
    }

pub overflow_add-total-in-loop-place-2 : goal.overflow_add-total-in-loop-place-2
overflow_add-total-in-loop-place-2 c =
    let number : c.from-total-in-loop-place-2.result ≡ slice_index c.as_slice-numbers.result.now c.loop-place-2.place = search rules in
    let fits = (counted c.args.cells.now c.as_slice-numbers.ensures.numbers c.as_slice-numbers.result.now
    c.as_slice-numbers.ensures.kept c.loop-place-2.place c.loop-place-2.total c.from-total-in-loop-place-2.result
    (omega arith) c.loop-place-2.invariant number).1 in
    omega arith

pub loop-place-2-preserved : goal.loop-place-2-preserved
loop-place-2-preserved c =
    let number : c.from-total-in-loop-place-2.result ≡ slice_index c.as_slice-numbers.result.now c.loop-place-2.place = search rules in
    (counted c.args.cells.now c.as_slice-numbers.ensures.numbers c.as_slice-numbers.result.now
    c.as_slice-numbers.ensures.kept c.loop-place-2.place c.loop-place-2.total c.from-total-in-loop-place-2.result
    (omega arith) c.loop-place-2.invariant number).0

pub returns-clause-sums : goal.returns-clause-sums
unfolding cell
returns-clause-sums c =
    let numbers = c.as_slice-numbers.result.now in
    subst (λ ns. AddsEach (λ place. pos (slice_index ns place)) c.args.sums.now c.loop-place.sums)
    c.as_slice-numbers.ensures.kept
    (all-added (slice_index numbers) c.args.sums.now c.loop-place.sums c.loop-place.place
    (λ i past low. cell-past numbers i (omega (arith, past, low, c.loop-place.invariant.added.len)))
    c.loop-place.invariant.added)

pub returns-clause-small : goal.returns-clause-small
returns-clause-small c = within-places (2 ^ 101) c.loop-place.sums (λ i low.
    let was = c.requires i in
    let from = was.0 in
    let upto = was.1 in
    ⊎_elim
    (λ before.
    let now = c.loop-place.invariant.added.done i before in
    let fits = c.loop-place.invariant.added.few i before in
    (omega (arith, ints), omega (arith, ints)))
    (λ past. let now = c.loop-place.invariant.added.left i past in (omega (arith, ints), omega (arith, ints)))
    (cases_lt i c.loop-place.place))

pub returns-clause-total : goal.returns-clause-total
returns-clause-total c =
    let cells = c.args.cells.now in
    let end : c.loop-place-2.place ≡ length cells =
    omega (arith, c.loop-place-2-test.false, c.loop-place-2.auto.place-end, ap length c.as_slice-numbers.ensures.kept) in
    c.loop-place-2.invariant ∙ ap (λ n. sum_below n (cell cells)) end
    ∙ sym (total-kept cells c.as_slice-numbers.ensures.numbers)

pub returns-clause-few : goal.returns-clause-few
returns-clause-few c =
    let few = total-below c.args.cells.now c.as_slice-numbers.ensures.numbers c.loop-place-2.place
    (omega (arith, c.loop-place-2.auto.place-end, c.as_slice-numbers.ensures.numbers.few, ap length c.as_slice-numbers.ensures.kept)) in
    omega (arith, few, c.loop-place-2.invariant)
