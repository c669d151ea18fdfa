-- What is kept of a body that comes in pieces.
use Rattle.std.specs.Prelude.{◌≡◌, ◌+◌, ℕ, List, length, min, take}
use Rattle.message_format.specs.Spelling.{max_message}
use Rattle.http_routes.specs.Bodies.{most_kept}
use Rattle.http_routes.specs.declared.table.Keeps.{Keeps}
use Rattle.http_routes.specs.declared.table.Keeps.TheVariants.{Text}
use Rattle.http_exchange.specs.Checked.{HasChecked}
use Rattle.http_exchange.specs.declared.kept_body.KeptBody.{KeptBody}

-- what came was checked, where it should be a text
abbrev pub IsChecked : Keeps → KeptBody → List ℕ → Type 0
IsChecked (Text longest) body came = HasChecked body.check came
IsChecked _ body came = Unit {0}

-- These bytes of a body came, of which so much is kept: their first ones are there. They are counted, up to one more than
-- the longest body has.
pub record HasCome (keeps : Keeps) (body : KeptBody) (came : List ℕ) : Type 0 where
  pub keeps_so : body.keeps ≡ keeps
  pub first : body.read.items ≡ take (most_kept keeps) came
  pub count : body.count ≡ min (length came) (max_message + 1)
  pub checked : IsChecked keeps body came
