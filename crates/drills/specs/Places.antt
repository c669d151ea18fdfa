-- Where the part of a node stands among others.
use Rattle.std.specs.Prelude.{ℕ, ◌+◌, ◌==◌, List, [], ◌∷◌, if◌then◌else◌, Option, Some, None}
use Rattle.drills.specs.Parts.{PartTold}

-- the place of the first part of a node, where the first of them has this place
abbrev pub place_from : ℕ → ℕ → List PartTold → Option ℕ
place_from node place [] = None
place_from node place (p ∷ parts) = if p.head.node == node then Some place else place_from node (place + 1) parts
