use Rattle.std.proofs.Common.{rules}
use Rattle.failreg.proofs.finish.finish_unread.Goals as goal

pub returns : goal.returns
returns g c = search rules
