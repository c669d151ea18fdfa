use Rattle.std.proofs.Common.{rules}
use Rattle.stamp_register.proofs.key.Key.copied.Goals as goal

pub returns : goal.returns
returns c = search rules
