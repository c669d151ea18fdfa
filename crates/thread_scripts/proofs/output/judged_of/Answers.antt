use Rattle.std.proofs.Common.{arith, rules}
use Rattle.std.proofs.lemmas.Grind.{common_steps}
use Rattle.thread_scripts.proofs.output.judged_of.Goals as goal

pub returns : goal.returns
returns c = record {
  each = search rules;
  counted = search rules;
  worked = grind (arith, common_steps);
  accepted = search rules;
  judged = search rules;
  totals = search rules;
  ended = search rules;
}
