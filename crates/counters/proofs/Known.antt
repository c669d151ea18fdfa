-- Who is short, of those without a place, and with zeros behind.
use Rattle.std.specs.Prelude.{◌≡◌, ◌≤◌, ℕ, Bool, true, List, length, get_or, int_le, ℤ, pos}
use Rattle.std.proofs.Common.{ap, sym, ◌∙◌}
use Rattle.std.proofs.lemmas.List.{get_or_past}
use Rattle.counters.specs.Balances.{AreMarked, IsLonger}

-- a node without a place is short
pub past-short : (balances : List ℤ) (node : ℕ) → length balances ≤ node → int_le (get_or balances node (pos 0)) (pos 0) ≡ true
past-short balances node past = ap (λ b. int_le b (pos 0)) (get_or_past balances node (pos 0) past)

-- zeros are behind
pub marked-longer : (marks : List Bool) (old new : List ℤ) → AreMarked marks old → IsLonger old new → AreMarked marks new
marked-longer marks old new marked longer node low =
    marked node low ∙ ap (λ b. int_le b (pos 0)) (sym (longer.each node))
