use Rattle.std.proofs.Common.{rules}
use Rattle.scripts.proofs.run.run_script_as.Goals as goal

pub returns-clause-ok : goal.returns-clause-ok
returns-clause-ok g c = search rules

pub returns-clause-prefix : goal.returns-clause-prefix
returns-clause-prefix g c = search rules

pub returns-clause-flushed : goal.returns-clause-flushed
returns-clause-flushed g c = search rules
