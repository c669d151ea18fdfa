use Rattle.std.proofs.Common.{arith, refl, rules}
use Rattle.lattice_laws.proofs.NumberJoins.{all_raised, raised_more}
use Rattle.lattice_laws.proofs.numbers.raise_each.Goals as goal

pub loop-place-init : goal.loop-place-init
loop-place-init c = record { len = refl; done = λ q low. absurd (omega (arith, low)); left = λ q high. refl }

pub loop-place-preserved : goal.loop-place-preserved
loop-place-preserved c = raised_more c.args.numbers.now c.args.others.now c.loop-place.numbers c.loop-place.place _
    (omega arith) (search rules) c.loop-place.invariant

pub returns-clause-each : goal.returns-clause-each
returns-clause-each c = all_raised c.args.numbers.now c.args.others.now c.loop-place.numbers c.loop-place.place
    (omega arith) c.loop-place.invariant
