use Rattle.std.proofs.Common.{take}
use Rattle.command_line.specs.Guarded.{AllHere}
use Rattle.command_line.proofs.guarding.first_unguarded.Given as goal

abbrev pub invariant-loop-peer : goal.invariant-loop-peer
invariant-loop-peer l = AllHere (take l.peer-index l.peers)
