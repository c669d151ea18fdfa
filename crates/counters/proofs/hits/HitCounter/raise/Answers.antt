use Rattle.std.proofs.Common.{rules}
use Rattle.counters.proofs.hits.HitCounter.raise.Goals as goal

pub returns-clause-ok : goal.returns-clause-ok
returns-clause-ok c = search rules
