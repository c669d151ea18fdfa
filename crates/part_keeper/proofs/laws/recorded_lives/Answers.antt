use Rattle.part_keeper.proofs.RecordedLives.{recorded_lives_are_lives}
use Rattle.part_keeper.proofs.laws.recorded_lives.Goals as goal

pub returns : goal.returns
returns c = recorded_lives_are_lives
