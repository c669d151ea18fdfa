use Rattle.std.proofs.Common.{List, ℕ, subst}
use Rattle.actions.specs.Grammar.{SpellsActions}
use Rattle.actions.specs.Canonical.{canonical}
use Rattle.actions.proofs.Complete.{one_value}
use Rattle.actions.proofs.CanonicalLemmas.{canonical_spells}
use Rattle.actions.proofs.laws.canonical_text_fixes_value.Goals as goal

pub returns : goal.returns
returns c = λ text other ts us h k e.
    one_value (canonical us) ts us (subst (λ (x : List ℕ). SpellsActions x ts) e (canonical_spells text ts h))
    (canonical_spells other us k)
