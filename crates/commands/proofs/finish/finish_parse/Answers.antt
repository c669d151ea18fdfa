use Rattle.std.proofs.Common.{rules}
use Rattle.commands.proofs.finish.finish_parse.Goals as goal

pub returns-in_ok-println-in-Ok-clause-done : goal.returns-in_ok-println-in-Ok-clause-done
returns-in_ok-println-in-Ok-clause-done g c = search rules

pub returns-in_ok-println-in-Ok-clause-refused : goal.returns-in_ok-println-in-Ok-clause-refused
returns-in_ok-println-in-Ok-clause-refused g c = search rules
