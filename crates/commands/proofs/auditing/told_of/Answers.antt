use Rattle.std.proofs.Common.{rules}
use Rattle.commands.proofs.auditing.told_of.Goals as goal

pub returns-clause-told : goal.returns-clause-told
returns-clause-told c = record {
  verdict = c.in_ok-verdict.verdict;
  judged = c.in_ok-verdict.ensures.audited;
  ended = c.in_ok-verdict.ensures.ended;
  is_yes = c.is_ok.ensures.value;
  told = search rules;
}
