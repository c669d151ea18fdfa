use Rattle.std.proofs.Common.{◌∙◌}
use Rattle.lattice_laws.proofs.lex.LexOf.held.Goals as goal

pub returns : goal.returns
returns g c = c.as_ref.ensures.value ∙ c.self.view_is
