use Rattle.std.proofs.Common.{rules}
use Rattle.actions.specs.Reading.{chance_at}
use Rattle.actions.proofs.reading.split_chance.Goals as goal

pub returns : goal.returns
unfolding chance_at
returns c = search rules
