use Rattle.node_for_c.specs.Parts.{AreLines}
use Rattle.node_for_c.proofs.registry.Registry.lines_from.Given as goal

abbrev pub invariant-loop-index : goal.invariant-loop-index
invariant-loop-index l = AreLines l.self.core l.from l.index l.lines.items
