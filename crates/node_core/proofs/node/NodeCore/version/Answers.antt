use Rattle.std.proofs.Common.{◌∙◌, sym, ap}
use Rattle.node_core.specs.Traces.{Kept, node_of}
use Rattle.node_core.proofs.node.NodeCore.version.Goals as goal

pub returns : goal.returns
returns c = c.version.ensures ∙ sym c.self.invariant.1.version_is ∙
    ap (λ (k : Kept). (node_of k).marks.version) c.self.view_is
