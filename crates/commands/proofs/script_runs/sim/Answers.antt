use Rattle.std.proofs.Common.{rules}
use Rattle.commands.proofs.script_runs.sim.Goals as goal

pub returns-clause-done : goal.returns-clause-done
returns-clause-done g c = search rules

pub returns-clause-flushed : goal.returns-clause-flushed
returns-clause-flushed g c = search rules

pub returns-clause-read_failed : goal.returns-clause-read_failed
returns-clause-read_failed g c = search rules

pub returns-clause-write_failed : goal.returns-clause-write_failed
returns-clause-write_failed g c = search rules

pub returns-clause-long : goal.returns-clause-long
returns-clause-long g c = search rules
