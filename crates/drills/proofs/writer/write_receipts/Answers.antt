use Rattle.std.proofs.Common.{[], map, sym, ap}
use Rattle.std.proofs.lemmas.List.{take_all}
use Rattle.streams.specs.Watched.{has_failed, inner_of}
use Rattle.drills.specs.Lines.{receipt, receipt_told}
use Rattle.drills.proofs.Growing.{added_line, both, mapped, none_yet, not_failed, ok_so}
use Rattle.drills.proofs.writer.write_receipts.Goals as goal

pub loop-receipt-init : goal.loop-receipt-init
loop-receipt-init g c = record { holds = none_yet (g.W.Write.contents (inner_of c.args.writer.now)); failed = c.requires }

pub loop-receipt-preserved : goal.loop-receipt-preserved
loop-receipt-preserved g c =
    let contents = g.W.Write.contents in
    let more = mapped receipt receipt_told c.args.list.now c.loop-receipt.receipt-index c.receipt-item.result
    c.loop-receipt-test.true c.receipt-item.is in
    let old = contents (inner_of c.args.writer.now) in
    let mid = contents (inner_of c.loop-receipt.writer) in
    let new = contents (inner_of c.write_receipt-came.new.out) in
    let said = ok_so c.write_receipt-came.result c.in_ok-written.ensures.came c.write_receipt-came.ensures in
    record {
      holds = both old mid new _ _ _ c.loop-receipt.invariant.holds
          (added_line mid new (receipt (receipt_told c.receipt-item.result)) said) more;
      failed = not_failed c.written.result (has_failed c.write_receipt-came.new.out) c.written.ensures.write_failed
          c.in_ok-written.was;
    }

pub returns-clause-ok : goal.returns-clause-ok
returns-clause-ok g c =
    let contents = g.W.Write.contents in
    let receipts = c.args.list.now in
    let old = contents (inner_of c.args.writer.now) in
    let all = take_all c.loop-receipt.receipt-index receipts c.loop-receipt-test.false in
    both old old (contents (inner_of c.loop-receipt.writer)) [] _ (map receipt (map receipt_told receipts)) (none_yet old)
    c.loop-receipt.invariant.holds (ap (λ xs. map receipt (map receipt_told xs)) (sym all))
