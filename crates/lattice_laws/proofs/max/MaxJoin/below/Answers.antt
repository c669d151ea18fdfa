use Rattle.std.proofs.lemmas.Bool.{le-leb, leb-true}
use Rattle.lattice_laws.proofs.max.MaxJoin.below.Goals as goal

pub returns-clause-value : goal.returns-clause-value
returns-clause-value c = (
  λ t. leb-true c.args.self.now.0 c.args.other.now.0 t,
  λ below. le-leb c.args.self.now.0 c.args.other.now.0 below,
)
