use Rattle.std.specs.Prelude.{◌≡◌, ◌<◌, ◌^◌, length, map, get_or, replicate, slice_index, pos, ◌-ℤ◌}
use Rattle.std.specs.List.{range_with_len}
use Rattle.std.proofs.Common.{ap, arith, refl, rules, sym, ◌∙◌, ⊎_elim}
use Rattle.std.proofs.lemmas.Bool.{cases_lt}
use Rattle.std.proofs.lemmas.Int.{ints}
use Rattle.std.proofs.lemmas.List.{get_or-replicate}
use Rattle.std.proofs.lemmas.List.FromFn.{fill_by_all}
use Rattle.counters.proofs.CellLemmas.{cell-past}
use Rattle.counters.proofs.Columns.{place-negated, taken-from-none, within-places}
use Rattle.counters.specs.Cells.{cell}
use Rattle.counters.proofs.cells.write_negated.Goals as goal

pub loop-place-init : goal.loop-place-init
loop-place-init c =
    let n = length c.args.sums.now in
    let zeros : c.fill.new.self ≡ replicate n (pos 0) = search rules in
    record {
      len = refl;
      read = λ i low. absurd (omega (arith, low));
      small = λ i low. absurd (omega (arith, low));
      left = λ i high inside. ap (λ xs. get_or xs i (pos 0)) zeros
          ∙ get_or-replicate n i (pos 0) (pos 0) (omega (arith, inside, c.fill.ensures.len));
    }

pub loop-place-preserved : goal.loop-place-preserved
loop-place-preserved c =
    let numbers = c.as_slice-numbers.result.now in
    let place = c.loop-place.place in
    let sums = c.loop-place.sums in
    let number = c.number_at.ensures in
    let fits : slice_index numbers place < 2 ^ 64 = omega (arith, number, c.number_at.type_inv) in
    let inside : place < length sums = omega arith in
    let none = c.loop-place.invariant.left place (omega arith) inside in
    place-negated numbers _ sums place _ inside
    (taken-from-none (get_or sums place (pos 0)) c.from.result (slice_index numbers place) none (search rules) fits)
    fits c.loop-place.invariant

pub returns-clause-sums : goal.returns-clause-sums
unfolding cell
returns-clause-sums c =
    let n = length c.args.sums.now in
    let numbers = c.as_slice-numbers.result.now in
    fill_by_all (λ i. pos 0 -ℤ pos (slice_index numbers i)) c.loop-place.sums n (pos 0)
    (c.loop-place.invariant.len ∙ c.fill.ensures.len)
    (λ i low. ⊎_elim (λ before. c.loop-place.invariant.read i before)
    (λ past. c.loop-place.invariant.left i past
    (omega (arith, low, c.loop-place.invariant.len, c.fill.ensures.len))
    ∙ ap (λ k. pos 0 -ℤ pos k) (sym (cell-past numbers i (omega (arith, past, low, c.fill.ensures.len)))))
    (cases_lt i c.loop-place.place))
    ∙ ap (λ ns. map (λ node. pos 0 -ℤ pos (slice_index ns node)) (range_with_len 0 n)) c.as_slice-numbers.ensures.kept

pub returns-clause-small : goal.returns-clause-small
returns-clause-small c = within-places (2 ^ 99) c.loop-place.sums (λ i low. ⊎_elim
    (λ before. c.loop-place.invariant.small i before)
    (λ past. let none = c.loop-place.invariant.left i past low in (omega (arith, ints), omega (arith, ints)))
    (cases_lt i c.loop-place.place))
