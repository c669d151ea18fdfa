use Rattle.std.proofs.Common.{map, sym, ap, ◌∙◌, option_map}
use Rattle.packed_trace.specs.Packed.{seen_told}
use Rattle.drills.specs.Lines.{receipt_told}
use Rattle.drills.proofs.Growing.{is_there}
use Rattle.drills.proofs.Joins.{one_receipt}
use Rattle.drills.proofs.joining.receipts_of.Goals as goal
use Rattle.drills.proofs.joining.receipts_of.Goals.{in-Some+in_ok-push_receipt, in_default}

pub loop-index-preserved : goal.loop-index-preserved
loop-index-preserved c =
    let calls = c.args.trace.now.calls in
    elim c.match-at.branch [
      | in-Some+in_ok-push_receipt w ↦
          rw w.list-is (one_receipt c.args.node calls c.loop-index.index (map receipt_told c.loop-index.list.items)
          (map receipt_told w.push_receipt.new.list.items) (seen_told w.in-Some.call) c.loop-index.invariant
          w.in_ok-push_receipt.ensures (sym c.at.ensures ∙ ap (option_map seen_told) w.in-Some.is))
      | in_default w ↦
          let none = sym c.at.ensures ∙ ap (option_map seen_told) w.in_default.is in
          absurd (is_there calls c.loop-index.index (rw c.len-index-end.ensures at c.loop-index-test.true) none)
    ]
