use Rattle.std.proofs.Common.{◌∙◌, ℕ, ap, drop}
use Rattle.cluster_model.proofs.world.whole_trace.Goals as goal

pub returns : goal.returns
returns c = c.trace.ensures ∙ ap (λ (from : ℕ). drop from c.args.node.now.trace) c.requires
