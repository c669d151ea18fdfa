use Rattle.std.proofs.Common.{◌≡◌, ℕ, true, false, cond, get_or, slice_get, ◌∙◌, sym, ap, arith, refl}
use Rattle.std.proofs.lemmas.List.{get_or_default}
use Rattle.std.specs.Vec.{with_item}
use Rattle.audit.specs.Receipts.{marks_in, times_seen}
use Rattle.audit.proofs.Seen.{marked, note_first, row_there, same_rows}
use Rattle.audit.proofs.receipts.Seen.note.Goals as goal

pub index_mut-requires : goal.index_mut-requires
index_mut-requires c =
    let row = c.index_mut-row.result.now in
    let there = row_there c.args.self.now.rows.items c.args.receipt.now.node c.args.receipt.now.index row c.requires
    c.index_mut-row.ensures.value in
    omega (arith, there.1, row.ok.0)

pub returns-then-index-clause-again : goal.returns-then-index-clause-again
unfolding times_seen
returns-then-index-clause-again c =
    let row = c.index_mut-row.result.now in
    let there = row_there c.args.self.now.rows.items c.args.receipt.now.node c.args.receipt.now.index row c.requires
    c.index_mut-row.ensures.value in
    ap {B = ℕ} (λ b. cond b 1 0) (ap (λ o. get_or (marks_in o) c.args.receipt.now.index false) there.0
    ∙ get_or_default row.items c.args.receipt.now.index false c.index.result.now there.1
    ∙ sym c.index.ensures ∙ c.if-index.true)

pub returns-clause-first : goal.returns-clause-first
unfolding times_seen
returns-clause-first c =
    let row = c.index_mut-row.result.now in
    let there = row_there c.args.self.now.rows.items c.args.receipt.now.node c.args.receipt.now.index row c.requires
    c.index_mut-row.ensures.value in
    let old = c.args.self.now.rows in
    let new = with_item old c.args.receipt.now.node (with_item row c.args.receipt.now.index true) in
    let fresh : get_or (marks_in (slice_get old.items c.args.receipt.now.node)) c.args.receipt.now.index false ≡ false =
    ap (λ o. get_or (marks_in o) c.args.receipt.now.index false) there.0
    ∙ get_or_default row.items c.args.receipt.now.index false c.index.result.now there.1
    ∙ sym c.index.ensures ∙ c.if-index.false in
    note_first (λ n i. get_or (marks_in (slice_get old.items n)) i false)
    (λ n i. get_or (marks_in (slice_get new.items n)) i false) c.args.receipt.now.node c.args.receipt.now.index fresh
    (marked c.args.self.now.rows.items c.args.receipt.now.node c.args.receipt.now.index row
    (with_item row c.args.receipt.now.index true) there.0 there.1 refl)

pub returns-clause-places : goal.returns-clause-places
returns-clause-places c =
    let row = c.index_mut-row.result.now in
    let there = row_there c.args.self.now.rows.items c.args.receipt.now.node c.args.receipt.now.index row c.requires
    c.index_mut-row.ensures.value in
    same_rows c.args.self.now.rows.items c.args.receipt.now.node c.args.receipt.now.index row
    (with_item row c.args.receipt.now.index true) there.0 refl
