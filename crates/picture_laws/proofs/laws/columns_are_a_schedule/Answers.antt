use Rattle.picture_laws.proofs.Final.{columns_are_a_schedule}
use Rattle.picture_laws.proofs.laws.columns_are_a_schedule.Goals as goal

pub returns : goal.returns
returns c = columns_are_a_schedule
