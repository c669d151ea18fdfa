use Rattle.std.proofs.Common.{◌≡◌, arith}
use Rattle.std.proofs.lemmas.Bool.{eq-eqb, eqb-true}
use Rattle.lattice_laws.proofs.max.MaxJoin.is_bottom.Goals as goal

pub returns-clause-value : goal.returns-clause-value
returns-clause-value c = (
  λ t. let zero : c.args.self.now.0 ≡ 0 = eqb-true c.args.self.now.0 0 t in omega arith,
  λ below. let zero : c.args.self.now.0 ≡ 0 = omega (arith, below) in eq-eqb c.args.self.now.0 0 zero,
)
