use Rattle.std.specs.Prelude.{length}
use Rattle.std.proofs.Common.{arith}
use Rattle.std.proofs.lemmas.Int.{ints}
use Rattle.counters.specs.Cells.{cell}
use Rattle.counters.proofs.Columns.{negated-read}
use Rattle.counters.proofs.balances.write_by_rows.Goals as goal

pub returns-clause-read : goal.returns-clause-read
returns-clause-read c = λ node low.
    let shares = c.args.shares.now in
    let n = length c.args.balances.now in
    let spent = negated-read (cell shares.first) c.write_negated.new.sums n c.write_negated.ensures.sums in
    let len = c.add_rows.ensures.sums.len in
    let size = spent.0 in
    let each = c.add_rows.ensures.sums.each node (omega (arith, low, len)) in
    let none = spent.1 node (omega (arith, low, len, size)) in
    omega (arith, ints)
