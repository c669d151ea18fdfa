use Rattle.std.proofs.Common.{sym, ◌∙◌, ap, max}
use Rattle.node_steps.proofs.Overspent.{clock_upto, clock_more}
use Rattle.node_steps.proofs.delivery.latest_clock.Goals as goal

pub loop-entry-preserved : goal.loop-entry-preserved
loop-entry-preserved c =
    c.max-clock.ensures
    ∙ ap (max c.entry-item.result.key.clock) c.loop-entry.invariant
    ∙ ap (λ k. max k (clock_upto c.args.entries.now c.loop-entry.entry-index)) (ap (λ e. e.key.clock) c.entry-item.is)
    ∙ sym (clock_more c.args.entries.now c.loop-entry.entry-index c.entry-item.result c.loop-entry-test.true)
