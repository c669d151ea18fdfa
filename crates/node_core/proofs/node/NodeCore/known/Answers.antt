use Rattle.std.proofs.Common.{◌∙◌, sym, ap, ℕ}
use Rattle.node_core.specs.Traces.{Kept, node_of}
use Rattle.node_core.proofs.node.NodeCore.known.Goals as goal

pub returns : goal.returns
returns c =
    c.known.ensures ∙ sym (ap (λ (known : ℕ → ℕ). known c.args.from) c.self.invariant.1.known_is)
    ∙ ap (λ (k : Kept). (node_of k).marks.known c.args.from) c.self.view_is
