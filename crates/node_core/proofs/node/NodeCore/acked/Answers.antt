use Rattle.std.proofs.Common.{◌≤◌, ◌∙◌, sym, ap, subst, ℕ}
use Rattle.node_core.specs.Traces.{Kept, node_of}
use Rattle.node_core.proofs.node.NodeCore.acked.Goals as goal

pub returns-clause-value : goal.returns-clause-value
returns-clause-value c =
    c.acked.ensures ∙ sym (ap (λ (acked : ℕ → ℕ). acked c.args.to) c.self.invariant.1.acked_is)
    ∙ ap (λ (k : Kept). (node_of k).marks.acked c.args.to) c.self.view_is

pub returns-clause-reached : goal.returns-clause-reached
returns-clause-reached c =
    subst (λ (acked : ℕ). acked ≤ (node_of c.args.self.now).marks.version) (sym (returns-clause-value c))
    (subst (λ (k : Kept). (node_of k).marks.acked c.args.to ≤ (node_of k).marks.version) c.self.view_is
    (c.self.invariant.1.acked_reached c.args.to))
