use Rattle.std.proofs.Common.{◌≡◌, Option, Some, None, ap, sym, ◌∙◌}
use Rattle.std.specs.Prelude.{option_map}
use Rattle.node_calls.specs.Told.{Told, told}
use Rattle.packed_trace.specs.Packed.{seen_told}
use Rattle.audit.proofs.Runs.{entry_read}
use Rattle.audit.proofs.Seen.{none_past}
use Rattle.audit.proofs.receipts.is_receipt_of.Goals as goal

pub returns-then-node-traces : goal.returns-then-node-traces
returns-then-node-traces c = (
  λ h. absurd (cc h),
  λ is. absurd (none_past c.args.traces.now c.args.receipt.now.node c.args.receipt.now.index _
      c.if-node-traces.true is),
)

pub returns-in-None : goal.returns-in-None
returns-in-None c =
    let read = entry_read c.args.traces.now c.args.receipt.now.node c.args.receipt.now.index _ _ c.if-node-traces.false
    c.index-traces-node.is c.call_at.ensures ∙ ap (option_map seen_told) c.in-None.is in (
      λ h. absurd (cc h),
      λ is. let clash : ◌≡◌ {A = Option Told} None (Some (told c.args.receipt.now.entry)) = sym read ∙ is in
          absurd (cc clash),
    )

pub returns-in-Some : goal.returns-in-Some
returns-in-Some c =
    let read = entry_read c.args.traces.now c.args.receipt.now.node c.args.receipt.now.index _ _ c.if-node-traces.false
    c.index-traces-node.is c.call_at.ensures ∙ ap (option_map seen_told) c.in-Some.is in (
      λ h. read ∙ ap Some (c.same_call.ensures.0 h),
      λ is. let same : Some (seen_told c.in-Some.call) ≡ Some (told c.args.receipt.now.entry) = sym read ∙ is in
          c.same_call.ensures.1 (cc same),
    )
