use Rattle.std.proofs.Common.{rules}
use Rattle.delta_exchange.specs.Versions.{value_of}
use Rattle.delta_exchange.proofs.versioned.Versioned.version.Goals as goal

pub returns : goal.returns
unfolding value_of
returns g c = search rules
