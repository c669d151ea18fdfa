use Rattle.std.proofs.Common.{◌<◌, ◌≤◌, ◌^◌, arith}
use Rattle.lattice_laws.specs.Max.{max_order}
use Rattle.lattice_laws.proofs.Joins.{copy_joins_second, copy_of_itself}
use Rattle.lattice_laws.proofs.max.MaxJoin.joined.Goals as goal

pub returns-then-a-b : goal.returns-then-a-b
returns-then-a-b c =
    let first : c.args.self.now.0 < 2 ^ 64 = omega arith in
    let second : c.args.other.now.0 < 2 ^ 64 = omega arith in
    let below : c.args.self.now.0 ≤ c.args.other.now.0 = omega arith in
    copy_joins_second max_order c.args.self.now c.args.other.now c.args.other.now first below
    (copy_of_itself max_order c.args.other.now second)
