use Rattle.std.specs.Prelude.{◌==◌, cond, get_or, slice_set, pos, ◌-ℤ◌}
use Rattle.std.proofs.Common.{subst}
use mir.Syntax.{w128}
use mir.Val.{of_z, to_z}
use Rattle.counters.specs.Sums.{node_numbers, sum_others, AddsEach}
use Rattle.counters.specs.Cells.{cell}
use Rattle.counters.proofs.Columns.{others-taken, row-written}
use Rattle.counters.proofs.cells.add_row.Goals as goal

pub returns-then-place-sums : goal.returns-then-place-sums
returns-then-place-sums c =
    let node = c.args.node in
    let row = c.args.row.now in
    let old = c.args.sums.now in
    let new = c.add_numbers-total.new.sums in
    let place = c.from-place.result in
    let all = c.others_of.result in
    let others = sum_others node_numbers node (cell row) in
    let was = get_or new place (pos 0) in
    let x = to_z w128 (of_z w128 (to_z w128 (of_z w128 was) -ℤ to_z w128 all)) in
    let small = c.add_numbers-total.ensures.small place in
    subst (λ n. AddsEach (λ i. pos (cell row i) -ℤ pos (cond (i == n) others 0)) old (slice_set new place x))
    c.from-place.ensures
    (row-written (cell row) old new place others x c.if-place-sums.true c.add_numbers-total.ensures.sums
    (others-taken was all others c.others_of.ensures.value c.others_of.ensures.small small.0 small.1))
