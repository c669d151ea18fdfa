use Rattle.lattice_laws.proofs.PairJoins.{pair_join}
use Rattle.lattice_laws.proofs.pair.PairOfJoin.joined.Goals as goal

pub returns : goal.returns
returns g c = pair_join c.in_ok-first.ensures c.in_ok-second.ensures
