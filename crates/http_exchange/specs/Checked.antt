-- What a check of pieces has seen.
use Rattle.std.specs.Prelude.{◌≡◌, ◌++◌, ℕ, List, take}
use Rattle.simdutf8.specs.Tracks.{HasRead}
use Rattle.http_exchange.specs.declared.text_check.TextCheck.{TextCheck}

-- it has seen these bytes: whole blocks, and the last block's
pub record HasChecked (check : TextCheck) (came : List ℕ) : Type 0 where
  pub blocks : List ℕ
  pub read : HasRead check.checker blocks
  pub all : came ≡ blocks ++ take check.filled check.block
