use Rattle.std.specs.Prelude.{◌≡◌, [], max, OnErr, OnOk}
use Rattle.std.proofs.Common.{◌∙◌, subst, sym, rules}
use Rattle.counters.specs.Cells.{WritesCell, cell}
use Rattle.counters.proofs.WriteLemmas.{OnErr-always, OnErr-map, OnOk-map, absent_row_cell, empty_cell, found_row_cell, put_row, raised_row}
use Rattle.counters.proofs.cells.raise_row.Goals as goal

pub returns-in_err-raise-in-None-clause-absent : goal.returns-in_err-raise-in-None-clause-absent
returns-in_err-raise-in-None-clause-absent c =
    OnErr-always _ c.from_residual.result (absent_row_cell c.args.rows.now c.args.from c.args.to
    c.in-None.ensures.found.1)

pub returns-in-Some-clause-ok : goal.returns-in-Some-clause-ok
returns-in-Some-clause-ok c =
    let changed = c.in-Some.ensures.changed in
    let called = changed.called in
    let met = called.met in
    let shows = called.shows in
    let leaves = called.leaves in
    let was = found_row_cell c.args.rows.now c.args.from changed.held changed.found c.args.to in
    let wrote : OnOk c.in-Some.raised (WritesCell changed.held changed.left c.args.to
    (max (cell changed.held c.args.to) c.args.number)) = search rules in
    OnOk-map _ _ c.in-Some.raised
    (put_row c.args.rows.now c.change.new.self c.args.from c.args.to _ changed.held changed.left changed.found
    changed.put)
    (subst (λ n. OnOk c.in-Some.raised (WritesCell changed.held changed.left c.args.to (max n c.args.number))) (sym was)
    wrote)

pub returns-in-Some-clause-err : goal.returns-in-Some-clause-err
returns-in-Some-clause-err c =
    let changed = c.in-Some.ensures.changed in
    let called = changed.called in
    let met = called.met in
    let shows = called.shows in
    let leaves = called.leaves in
    let stayed : OnErr c.in-Some.raised (changed.left ≡ changed.held) = search rules in
    OnErr-map _ _ c.in-Some.raised changed.kept stayed

pub returns-in-Some-clause-absent : goal.returns-in-Some-clause-absent
returns-in-Some-clause-absent c =
    let changed = c.in-Some.ensures.changed in
    let called = changed.called in
    let met = called.met in
    let shows = called.shows in
    let none : OnErr c.in-Some.raised (cell changed.held c.args.to ≡ 0) = search rules in
    OnErr-map _ _ c.in-Some.raised (λ zero. found_row_cell c.args.rows.now c.args.from changed.held changed.found
    c.args.to ∙ zero) none

pub returns-in_ok-raise-in-None-clause-ok : goal.returns-in_ok-raise-in-None-clause-ok
returns-in_ok-raise-in-None-clause-ok c =
    let absent = c.in-None.ensures.found.1 in
    let wrote : WritesCell [] c.raise.new.cells c.args.to (max (cell [] c.args.to) c.args.number) =
    rw c.new-row.ensures at c.in_ok-raise-in-None.ensures.ok in
    let was = empty_cell c.args.to ∙ sym (absent_row_cell c.args.rows.now c.args.from c.args.to absent) in
    let same : c.change.new.self ≡ c.args.rows.now = c.in-None.ensures.absent in
    OnOk-map _ _ c.raise-in-None.result
    (raised_row c.args.rows.now c.raise-in-None.new.self c.args.from c.args.to _ c.raise.new.cells absent
    (subst (λ n. WritesCell [] c.raise.new.cells c.args.to (max n c.args.number)) was wrote))
    (rw same at c.raise-in-None.ensures.ok)

pub returns-in_ok-raise-in-None-clause-absent : goal.returns-in_ok-raise-in-None-clause-absent
returns-in_ok-raise-in-None-clause-absent c = OnErr-always _ c.raise-in-None.result
    (absent_row_cell c.args.rows.now c.args.from c.args.to c.in-None.ensures.found.1)
