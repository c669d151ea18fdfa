use Rattle.std.proofs.Common.{◌+◌, subst, sym}
use Rattle.packed_trace.specs.Packed.{seen_told}
use Rattle.node_for_c.specs.Parts.{AreLines, no_line, one_more}
use Rattle.node_for_c.proofs.registry.Registry.lines_from.Goals as goal

pub loop-index-init : goal.loop-index-init
loop-index-init c =
    subst (λ l. AreLines c.args.self.now.core c.args.from c.args.from l) (sym c.new-lines.ensures.items) no_line

pub loop-index-preserved : goal.loop-index-preserved
loop-index-preserved c =
    subst (λ l. AreLines c.args.self.now.core c.args.from (c.loop-index.index + 1) l) (sym c.in-Ok.ensures.0)
    (one_more (seen_told c.in-Some.call) c.loop-index.invariant (sym c.in-Some.ensures))
