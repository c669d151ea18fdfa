use Rattle.lattice_laws.proofs.pair.PairOfJoin.is_bottom.Goals as goal

pub returns-then-first-clause-value : goal.returns-then-first-clause-value
returns-then-first-clause-value g c =
    let first = c.is_bottom-first.ensures.value in
    let second = c.is_bottom-second.ensures.value in
    (λ t. (first.0 c.if-first.true, second.0 t), λ p. second.1 p.1)
