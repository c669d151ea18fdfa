-- The terms of an action text beside their canonical text.
use Rattle.std.specs.Prelude.{◌≡◌, List, map, string_bytes}
use Rattle.actions.specs.Value.{TermValue, term_value}
use Rattle.actions.specs.Grammar.{SpellsActions}
use Rattle.actions.specs.Canonical.{canonical}
use Rattle.actions.specs.declared.actions.Spelled.{Spelled}

abbrev pub terms_of : Spelled → List TermValue
terms_of s = map term_value s.terms.items

abbrev pub IsSpelled : Spelled → Type 0
IsSpelled s = SpellsActions (string_bytes s.text) (terms_of s) × (string_bytes s.text ≡ canonical (terms_of s))
