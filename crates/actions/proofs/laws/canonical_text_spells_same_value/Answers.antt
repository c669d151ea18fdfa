use Rattle.actions.proofs.CanonicalLemmas.{canonical_spells, canonical_shortest}
use Rattle.actions.proofs.laws.canonical_text_spells_same_value.Goals as goal

pub returns : goal.returns
returns c = λ text ts h. (canonical_spells text ts h, canonical_shortest text ts h)
