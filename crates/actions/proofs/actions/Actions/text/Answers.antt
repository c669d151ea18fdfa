use Rattle.std.proofs.Common.{◌∙◌}
use Rattle.actions.proofs.CanonicalLemmas.{canonical_spells}
use Rattle.actions.proofs.Complete.{reading_complete}
use Rattle.actions.proofs.actions.Actions.text.Goals as goal

pub returns-clause-reads : goal.returns-clause-reads
returns-clause-reads c = reading_complete _ _ (canonical_spells _ _ c.spelled.ensures.spelled)

pub returns-clause-value : goal.returns-clause-value
returns-clause-value c = c.deref.ensures ∙ c.spelled.ensures.canonical
