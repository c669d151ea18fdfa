use Rattle.std.proofs.Common.{◌≡◌, map, take}
use Rattle.std.specs.Prelude.{string_bytes}
use Rattle.actions.specs.Value.{term_value}
use Rattle.actions.specs.Canonical.{canonical}
use Rattle.actions.proofs.actions.canonical_text.Given as goal

abbrev pub invariant-loop-index : goal.invariant-loop-index
invariant-loop-index l = string_bytes l.text ≡ canonical (map term_value (take l.index l.terms))
