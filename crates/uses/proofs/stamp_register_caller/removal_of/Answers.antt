use Rattle.std.proofs.Common.{arith}
use Rattle.lattice_laws.proofs.Entries.{IfSome-weaken}
use Rattle.stamp_register.specs.Keys.{key_value}
use Rattle.uses.proofs.stamp_register_caller.removal_of.Goals as goal

pub returns-clause-last : goal.returns-clause-last
returns-clause-last c = c.next.ensures.last

pub returns-clause-above : goal.returns-clause-above
returns-clause-above c =
    IfSome-weaken _ _ c.next.result (λ key above. above (key_value c.args.setting.now) (omega arith))
    c.next.ensures.above
