-- The messages that were taken, as arrows from where they were made.
use Rattle.std.specs.Prelude.{ℕ, Bool, false, List, [], ◌∷◌, find, Option, Some, None}
use Rattle.std.specs.List.{flat_map}
use Rattle.node_calls.specs.Told.{Told, ReplyTold, was_delivered}
use Rattle.drill_picture.specs.declared.arrow.Arrow.{Arrow}
use Rattle.drill_picture.specs.declared.place.Place.{Place}
use Rattle.drill_picture.specs.Calls.{Traces, call_at, makes, taken_by}

-- the first of the places whose call made a message of these bytes
unfoldable pub maker_of : Traces → List Place → List ℕ → Option Place
maker_of traces places bytes = find (λ p. makes bytes (call_at traces p.node p.index)) places

-- whether a delivery told its node anything
abbrev pub is_news : ReplyTold → Bool
is_news (was_delivered changed) = changed
is_news _ = false

abbrev pub arrow_from : Place → Bool → Option Place → List Arrow
arrow_from place news None = []
arrow_from place news (Some from) = record { from = from; to = place; news = news } ∷ []

abbrev pub arrow_of_bytes : Traces → List Place → Place → Bool → Option (List ℕ) → List Arrow
arrow_of_bytes traces places place news None = []
arrow_of_bytes traces places place news (Some bytes) = arrow_from place news (maker_of traces places bytes)

abbrev pub arrow_of_call : Traces → List Place → Place → Option Told → List Arrow
arrow_of_call traces places place None = []
arrow_of_call traces places place (Some call) =
    arrow_of_bytes traces places place (is_news call.reply) (taken_by call.ask)

-- the arrow to a place, if its call took a message
unfoldable pub arrow_to : Traces → List Place → Place → List Arrow
arrow_to traces places place = arrow_of_call traces places place (call_at traces place.node place.index)

-- all arrows, in the order of where they end
abbrev pub arrows_of : Traces → List Place → List Arrow
arrows_of traces places = flat_map (arrow_to traces places) places
