use Rattle.std.proofs.Common.{arith}
use Rattle.std.proofs.lemmas.Int.{ints}
use Rattle.counters.proofs.CellLemmas.{came_to-bound, cell-bound, went_from-bound}
use Rattle.counters.proofs.ledger.are_small.Goals as goal

pub returns : goal.returns
returns c = λ node.
    let shares = c.args.shares.now in
    let both = c.is_bottom.ensures.admitted_self in
    let spent = cell-bound shares.first both.0 node in
    let came = came_to-bound node shares.second both.1 in
    let went = went_from-bound node shares.second both.1 in
    omega (arith, ints)
