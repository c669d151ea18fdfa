use Rattle.std.proofs.Common.{◌≡◌, drop}
use Rattle.drill_picture.specs.Knowing.{loaded}
use Rattle.drill_picture.proofs.known.Known.loaded.Given as goal

abbrev pub invariant-loop-point : goal.invariant-loop-point
invariant-loop-point l = loaded l.name l.node (drop l.point-index l.points) l.known ≡ loaded l.name l.node l.points l.fn.self
