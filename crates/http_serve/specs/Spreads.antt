-- What a served node answers to a request to spread the rights of a point.
use Rattle.std.specs.Prelude.{ℕ, Bool, List, Option, Some, None}
use Rattle.node_steps.specs.declared.config.Config.{Config}
use Rattle.node_registry.specs.Batches.{IsBatch}
use Rattle.node_registry.specs.Seats.{SeatState}
use Rattle.http_routes.specs.Replies.{ReplyValue}
use Rattle.http_routes.specs.Answers.{Comes}
use Rattle.http_routes.specs.Requests.{WantedValue, sets_spread, spreads}

-- a point is set to a text and spread, or spread as it is
abbrev pub spread_of : List ℕ → Option (List ℕ) → WantedValue
spread_of name (Some text) = sets_spread name text
spread_of name None = spreads name

-- what is wanted of a spread comes to this reply at some lawful node of a configuration, and nothing comes between its
-- calls, each of which is counted to the seat
abbrev pub IsSpreadFrom : Config → List ℕ → Bool → ℕ → SeatState → SeatState → WantedValue → ReplyValue → Type 0
IsSpreadFrom config seed keeps seats had has wanted given =
    IsBatch config seed keeps seats had has (λ k new. Comes k wanted new given)

-- the same from some seat
abbrev pub IsSpreadServed : Config → List ℕ → Bool → ℕ → WantedValue → ReplyValue → Type 0
IsSpreadServed config seed keeps seats wanted given =
    (had : SeatState) × (has : SeatState) × IsSpreadFrom config seed keeps seats had has wanted given
