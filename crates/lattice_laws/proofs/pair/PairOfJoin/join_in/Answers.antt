use Rattle.lattice_laws.proofs.PairJoins.{pair_join}
use Rattle.lattice_laws.proofs.pair.PairOfJoin.join_in.Goals as goal

pub returns-clause-ok : goal.returns-clause-ok
returns-clause-ok g c = pair_join c.in_ok-both.ensures c.in_ok-join_in.ensures.ok
