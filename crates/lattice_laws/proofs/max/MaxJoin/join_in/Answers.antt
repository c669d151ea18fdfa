use Rattle.std.proofs.Common.{◌<◌, ◌≤◌, ◌^◌, arith}
use Rattle.lattice_laws.specs.Max.{max_order}
use Rattle.lattice_laws.proofs.Joins.{copy_joins_second, copy_of_itself}
use Rattle.lattice_laws.proofs.max.MaxJoin.join_in.Goals as goal

pub returns-then-self-other-clause-ok : goal.returns-then-self-other-clause-ok
returns-then-self-other-clause-ok c =
    let first : c.args.self.now.0 < 2 ^ 64 = omega arith in
    let second : c.args.other.0 < 2 ^ 64 = omega arith in
    let below : c.args.self.now.0 ≤ c.args.other.0 = omega arith in
    copy_joins_second max_order c.args.self.now c.args.other c.args.other first below
    (copy_of_itself max_order c.args.other second)
