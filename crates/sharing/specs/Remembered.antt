-- What is remembered, by how it is kept.
use Rattle.std.specs.Prelude.{List, map, Option, option_map}
use Rattle.std.specs.Borrow.{Bor}
use Rattle.sharing.specs.declared.remembered.Remembered.{Remembered}
use Rattle.sharing.specs.Memory.{Recalled}

abbrev pub recalled : Remembered → Recalled
recalled kept = record { name = kept.name; hits = kept.hits.items; still = kept.still }

abbrev pub recalled_all : List Remembered → List Recalled
recalled_all kept = map recalled kept

-- what was found of a point
abbrev pub recalled_at : Option (Bor Remembered) → Option Recalled
recalled_at found = option_map (λ kept. recalled kept.now) found
