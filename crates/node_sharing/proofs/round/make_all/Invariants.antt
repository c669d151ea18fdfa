use Rattle.std.proofs.Common.{take}
use Rattle.node_sharing.specs.Made.{AreMade}
use Rattle.node_sharing.proofs.round.make_all.Given as goal

abbrev pub invariant-loop-shift : goal.invariant-loop-shift
invariant-loop-shift l = AreMade l.initial.node (take l.shift-index l.shifts) l.node
