-- What a node remembers from round to round, beside its trace.
use Rattle.std.specs.Prelude.{ℕ, List, slice_index, Option, Some, None}
use Rattle.std.specs.List.{find}
use Rattle.std.specs.Str.{bytes_eq}

-- of a point: the hits of each node as of the last round, in the order of the nodes, and for how many
-- rounds on end the node's own hits had then stayed the same, counted up to `patience`
pub record Recalled : Type 0 where
  pub name : List ℕ
  pub hits : List ℕ
  pub still : ℕ

-- who hasn't passed for so many rounds gives its last right away too
abbrev pub patience : ℕ
patience = 10

-- what is remembered of a name, if anything is
abbrev pub recall : List Recalled → List ℕ → Option Recalled
recall memory name = find (λ recalled. bytes_eq recalled.name name) memory

-- the hits of a node as of the last round, 0 at first
abbrev pub seen : Option Recalled → ℕ → ℕ
seen None node = 0
seen (Some recalled) node = slice_index recalled.hits node

-- for how many rounds the node itself hadn't passed then
abbrev pub still_before : Option Recalled → ℕ
still_before None = patience
still_before (Some recalled) = recalled.still
