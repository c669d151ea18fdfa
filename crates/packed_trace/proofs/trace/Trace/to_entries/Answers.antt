use Rattle.std.proofs.Common.{◌∙◌, ap, sym, Some, option_map}
use Rattle.node_calls.specs.Told.{Told}
use Rattle.packed_trace.specs.Packed.{seen_told}
use Rattle.packed_trace.proofs.Stays.{one_more, taken_all}
use Rattle.packed_trace.proofs.trace.Trace.to_entries.Goals as goal

pub loop-seen-preserved : goal.loop-seen-preserved
loop-seen-preserved c =
    let next = sym c.at.ensures ∙ ap (option_map seen_told) c.in-Some.is ∙
    ap (λ (t : Told). Some t) (sym c.in_ok-to_entry.ensures) in
    let more = one_more c.args.self.now.calls c.loop-seen.entries.items c.in_ok-to_entry.field-0 c.len.result
    (c.len.ensures ∙ c.loop-seen.entries.ok.0) c.loop-seen.invariant.told next in
    rw c.in_ok-push.ensures.items (record { told = more.0; few = more.1 })

pub returns : goal.returns
returns c =
    let at = c.len.ensures ∙ c.loop-seen.entries.ok.0 in
    let none = sym c.at.ensures ∙ ap (option_map seen_told) c.in_default.is in
    c.loop-seen.invariant.told ∙ taken_all c.args.self.now.calls _ (rw at at none)
