-- The key that peers ask for.
use Rattle.std.specs.Prelude.{ℕ, List, ◌++◌, codes}
use Rattle.hex.specs.Hex.{encode_lower}

-- what says that a request has the key of these bytes
abbrev pub credentials : List ℕ → List ℕ
credentials bytes = codes "Bearer " ++ encode_lower bytes
