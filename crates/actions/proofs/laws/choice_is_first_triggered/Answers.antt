use Rattle.actions.proofs.ChoiceLemmas.{choice_from_first, first_from_choice}
use Rattle.actions.proofs.laws.choice_is_first_triggered.Goals as goal

pub returns : goal.returns
returns c = λ ts words may chosen. (first_from_choice ts words may chosen, choice_from_first ts words may chosen)
