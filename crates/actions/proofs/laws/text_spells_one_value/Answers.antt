use Rattle.actions.proofs.Complete.{one_value}
use Rattle.actions.proofs.laws.text_spells_one_value.Goals as goal

pub returns : goal.returns
returns c = one_value
