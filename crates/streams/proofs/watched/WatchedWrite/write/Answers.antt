use Rattle.std.proofs.Common.{rules}
use Rattle.streams.proofs.watched.WatchedWrite.write.Goals as goal

pub returns-in-Err-clause-failed : goal.returns-in-Err-clause-failed
returns-in-Err-clause-failed g c = search rules
