use Rattle.std.proofs.Common.{rules}
use Rattle.streams.proofs.watched.WatchedWrite.write_all.Goals as goal

pub returns-clause-unflushed : goal.returns-clause-unflushed
returns-clause-unflushed g c = search rules
