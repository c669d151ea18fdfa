use Rattle.std.specs.Prelude.{◌≡◌, length, map, get_or, replicate, slice_index}
use Rattle.std.specs.List.{range_with_len}
use Rattle.std.proofs.Common.{ap, arith, refl, rules, sym, ◌∙◌, ⊎_elim}
use Rattle.std.proofs.lemmas.Bool.{cases_lt}
use Rattle.std.proofs.lemmas.List.{get_or-replicate}
use Rattle.std.proofs.lemmas.List.FromFn.{fill_by_all}
use Rattle.counters.proofs.CellLemmas.{cell-past}
use Rattle.counters.specs.Cells.{cell}
use Rattle.counters.proofs.cells.write_numbers.Goals as goal

pub loop-place-init : goal.loop-place-init
loop-place-init c =
    let n = length c.args.numbers.now in
    let zeros : c.fill.new.self ≡ replicate n 0 = search rules in
    record {
      len = refl;
      read = λ i low. absurd (omega (arith, low));
      left = λ i high inside. ap (λ xs. get_or xs i 0) zeros
          ∙ get_or-replicate n i 0 0 (omega (arith, inside, c.fill.ensures.len));
    }

pub returns : goal.returns
unfolding cell
returns c =
    let n = length c.args.numbers.now in
    let known = c.as_slice-known.result.now in
    fill_by_all (slice_index known) c.loop-place.numbers n 0
    (c.loop-place.invariant.len ∙ c.fill.ensures.len)
    (λ i low. ⊎_elim (λ before. c.loop-place.invariant.read i before)
    (λ past. c.loop-place.invariant.left i past
    (omega (arith, low, c.loop-place.invariant.len, c.fill.ensures.len))
    ∙ sym (cell-past known i (omega (arith, past, low, c.fill.ensures.len))))
    (cases_lt i c.loop-place.place))
    ∙ ap (λ ns. map (slice_index ns) (range_with_len 0 n)) c.as_slice-known.ensures.kept
