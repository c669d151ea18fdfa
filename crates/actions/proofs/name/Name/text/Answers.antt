use Rattle.std.proofs.Common.{◌∙◌, ap, sym}
use Rattle.actions.specs.Names.{is_name}
use Rattle.actions.proofs.name.Name.text.Goals as goal

pub returns : goal.returns
returns c = record {
  text = c.deref.ensures ∙ c.self.view_is;
  named = ap is_name (sym c.self.view_is) ∙ c.self.invariant;
}
