use Rattle.std.proofs.Common.{subst, refl}
use Rattle.std.specs.Str.{IsUtf8}
use Rattle.node_steps.proofs.load.set_to.Goals as goal

pub returns-clause-tellable : goal.returns-clause-tellable
returns-clause-tellable c = (
  subst IsUtf8 c.text.ensures.value c.text.utf8,
  c.args.actions,
  c.text.ensures.spelled,
  refl,
)
