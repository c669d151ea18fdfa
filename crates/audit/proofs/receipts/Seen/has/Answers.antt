use Rattle.std.proofs.Common.{ℕ, false, cond, get_or, ◌∙◌, sym, ap, arith, refl}
use Rattle.std.proofs.lemmas.Option.{slice_get_past, slice_get_read}
use Rattle.audit.specs.Receipts.{marks_in, times_seen}
use Rattle.audit.proofs.receipts.Seen.has.Goals as goal

pub returns-then-node-len : goal.returns-then-node-len
unfolding times_seen
returns-then-node-len c =
    let rows = c.args.self.now.rows in
    let past = slice_get_past rows.items c.args.node (omega (arith, c.if-node-len.true, c.len.ensures, rows.ok.0)) in
    ap {B = ℕ} (λ o. cond (get_or (marks_in o) c.args.index false) 1 0) past

pub returns : goal.returns
unfolding times_seen
returns c =
    let rows = c.args.self.now.rows in
    let row = c.index.result.now in
    let there = slice_get_read rows.items _ c.args.node row refl
    (omega (arith, c.if-node-len.false, c.len.ensures, rows.ok.0)) c.index.ensures in
    ap {B = ℕ} (λ b. cond b 1 0) (ap (λ o. get_or (marks_in o) c.args.index false) there
    ∙ ap (λ l. get_or l c.args.index false) (sym c.as_slice.ensures.value) ∙ sym c.is_marked.ensures)
