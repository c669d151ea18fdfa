use Rattle.std.proofs.Common.{◌∙◌}
use Rattle.actions.proofs.name.Name.copied.Goals as goal

pub invariant_of-result : goal.invariant_of-result
invariant_of-result c = (rw (c.in_ok-text.ensures.ok, c.deref.ensures) c.self.inside.front_is, tt)

pub returns : goal.returns
returns c = c.in_ok-text.ensures.ok ∙ c.deref.ensures ∙ c.self.view_is
