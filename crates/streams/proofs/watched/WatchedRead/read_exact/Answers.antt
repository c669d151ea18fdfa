use Rattle.std.proofs.Common.{rules}
use Rattle.streams.proofs.watched.WatchedRead.read_exact.Goals as goal

pub returns-clause-bytes : goal.returns-clause-bytes
returns-clause-bytes g c = search rules
