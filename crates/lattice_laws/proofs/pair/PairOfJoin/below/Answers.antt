use Rattle.lattice_laws.proofs.pair.PairOfJoin.below.Goals as goal

pub returns-then-first-clause-value : goal.returns-then-first-clause-value
returns-then-first-clause-value g c =
    let first = c.below-first.ensures.value in
    let second = c.below-second.ensures.value in
    (λ t. (first.0 c.if-first.true, second.0 t), λ p. second.1 p.1)
