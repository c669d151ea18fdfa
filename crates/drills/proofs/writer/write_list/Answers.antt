use Rattle.std.proofs.Common.{[], ◌∷◌, map, None, sym, ap}
use Rattle.std.specs.String.{string_bytes}
use Rattle.std.proofs.lemmas.Result.{IfOk-weaker}
use Rattle.streams.specs.Watched.{inner_of}
use Rattle.drills.specs.Lines.{list, receipt, receipt_told}
use Rattle.drills.proofs.Growing.{both, one_line}
use Rattle.drills.proofs.writer.write_list.Goals as goal

pub returns-clause-ok : goal.returns-clause-ok
returns-clause-ok g c =
    let contents = g.W.Write.contents in
    let head = list c.args.number None in
    let old = contents (inner_of c.args.writer.now) in
    let mid = contents (inner_of c.write_line.new.writer) in
    let new = contents (inner_of c.write_receipts.new.writer) in
    IfOk-weaker c.write_receipts.result _ _ (λ _ more. both old mid new (head ∷ []) _
    (head ∷ map receipt (map receipt_told c.args.list.now.items))
    (one_line old mid (string_bytes c.in_ok-list_text.field-0) head c.in_ok-list_text.ensures
    c.in_ok-write_line.ensures.ok)
    more (ap (λ xs. head ∷ map receipt (map receipt_told xs)) (sym c.deref.ensures.value))) c.write_receipts.ensures.ok
