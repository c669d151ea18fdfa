use Rattle.std.proofs.Common.{refl}
use Rattle.lattice_laws.proofs.lex.LexOf.of.Goals as goal

pub returns : goal.returns
returns g c = refl
