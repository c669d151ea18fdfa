use Rattle.std.proofs.Common.{arith}
use Rattle.std.proofs.lemmas.Grind.{elements}
use Rattle.actions.proofs.actions.Actions.term.Goals as goal

pub returns : goal.returns
returns c = grind (arith, elements)
