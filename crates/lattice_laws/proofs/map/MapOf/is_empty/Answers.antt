use Rattle.std.proofs.Common.{ap, length, sym, ◌∙◌}
use Rattle.std.proofs.lemmas.Bool.{eq-eqb, eqb-true}
use Rattle.lattice_laws.proofs.Takings.{no-entries}
use Rattle.lattice_laws.proofs.map.MapOf.is_empty.Goals as goal

pub returns : goal.returns
returns g c = (
  λ t. no-entries c.args.self.now (sym c.len.ensures.value ∙ eqb-true c.len.result 0 t),
  λ e. eq-eqb c.len.result 0 (c.len.ensures.value ∙ ap length e),
)
