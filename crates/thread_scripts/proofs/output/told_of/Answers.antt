use Rattle.std.proofs.Common.{rules}
use Rattle.thread_scripts.proofs.output.told_of.Goals as goal

pub returns : goal.returns
returns c = record {
  judged = c.in_ok-judged.judged;
  is_judged = c.in_ok-judged.ensures;
  printed = c.in_ok-printed.ensures;
  warned = search rules;
}
