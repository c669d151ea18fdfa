use Rattle.std.specs.Prelude.{◌≡◌, max}
use Rattle.std.proofs.Common.{arith, subst}
use Rattle.counters.specs.Cells.{WritesCell, cell}
use Rattle.counters.proofs.CellLemmas.{cell-past}
use Rattle.counters.proofs.WriteLemmas.{OnErr-map, OnOk-map, kept_cell, wrote_cell}
use Rattle.counters.proofs.cells.raise.Goals as goal

pub returns-then-number-number_of-clause-ok : goal.returns-then-number-number_of-clause-ok
returns-then-number-number_of-clause-ok c = kept_cell c.args.cells.now c.args.node c.args.number (omega arith)

pub returns-clause-ok : goal.returns-clause-ok
returns-clause-ok c =
    let old = c.args.cells.now in
    let greater : c.args.number ≡ max (cell old c.args.node) c.args.number = omega arith in
    OnOk-map _ _ c.put.result
    (λ wrote. subst (WritesCell old c.put.new.self c.args.node) greater (wrote_cell _ _ _ _ wrote)) c.put.ensures.ok

pub returns-clause-absent : goal.returns-clause-absent
returns-clause-absent c = OnErr-map _ _ c.put.result (cell-past c.args.cells.now c.args.node) c.put.ensures.beyond
