use Rattle.std.proofs.Common.{rules}
use Rattle.commands.proofs.auditing.told_of_parts.Goals as goal

pub returns-clause-told : goal.returns-clause-told
returns-clause-told c = record {
  traces = c.in_ok-drill.drill.traces.items;
  lists = c.in_ok-drill.drill.lists.items;
  verdict = c.in-Ok.told.0.bytes;
  joined = c.in_ok-drill.ensures.joined;
  told = c.in-Ok.ensures.told;
  with_cuts = search rules;
}
