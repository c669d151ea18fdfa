use Rattle.message_format.proofs.ToldLemmas.{entries_told}
use Rattle.message_format.proofs.laws.told_operations_are_well_formed.Goals as goal

pub returns : goal.returns
returns c = λ nodes m h. entries_told nodes m.entries h.entries.each
