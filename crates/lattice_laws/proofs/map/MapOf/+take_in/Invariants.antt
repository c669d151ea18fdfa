use Rattle.std.proofs.Common.{length}
use Rattle.lattice_laws.proofs.map.MapOf.+take_in.Given as goal

abbrev pub decreases-take_in : goal.decreases-take_in
decreases-take_in g l = length l.other
