use Rattle.std.proofs.Common.{rules}
use Rattle.streams.proofs.watched.Watched.new.Goals as goal

pub returns-clause-failed : goal.returns-clause-failed
returns-clause-failed g c = search rules

pub returns-clause-unflushed : goal.returns-clause-unflushed
returns-clause-unflushed g c = search rules
