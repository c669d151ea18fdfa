use Rattle.std.proofs.Common.{◌<◌, ◌^◌, arith}
use Rattle.lattice_laws.specs.Max.{max_order}
use Rattle.lattice_laws.proofs.Joins.{copy_of_itself}
use Rattle.lattice_laws.proofs.max.MaxJoin.copied.Goals as goal

pub returns : goal.returns
returns c = let number : c.args.self.now.0 < 2 ^ 64 = omega arith in copy_of_itself max_order c.args.self.now number
