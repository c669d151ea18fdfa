-- The counted terms of the settings that a drill's calls made, as far as the calls stand.
use Rattle.std.specs.Prelude.{◌≡◌, ℕ, zero, suc, List, [], ◌∷◌, ◌++◌, fold, length, replicate, slice_get, slice_set, string_bytes, Option, Some, None, Result, Ok, Err}
use Rattle.actions.specs.Value.{TermValue}
use Rattle.actions.specs.Reading.{reading}
use Rattle.actions.specs.declared.fault.ActionFault.{ActionFault}
use Rattle.stamp_register.specs.declared.key.Stamp.{Stamp}
use Rattle.node_calls.specs.Told.{Told, AskTold, ReplyTold, sets, loads, was_set}
use Rattle.drill_picture.specs.declared.counted.Counted.{Counted}
use Rattle.drill_picture.specs.declared.known.Known.{Known}
use Rattle.drill_picture.specs.declared.place.Place.{Place}
use Rattle.drill_picture.specs.Budgets.{BudgetTold}
use Rattle.drill_picture.specs.Calls.{Traces, call_at}
use Rattle.drill_picture.specs.Knowing.{known_after, knows_nothing, made, next_stamp, points_loaded}
use Rattle.drill_picture.specs.Placing.{AreAllColumns}
use Rattle.drill_picture.specs.Stories.{message_nodes}

abbrev pub counted_told : Counted → BudgetTold
counted_told c = record { name = string_bytes c.name; stamp = c.stamp; term = c.term; count = c.count }

-- the count of a term, if there is such a term and it is counted
abbrev pub count_of : Option TermValue → Option ℕ
count_of None = None
count_of (Some term) = term.count

abbrev pub counted_term : List ℕ → Stamp → ℕ → Option ℕ → List BudgetTold
counted_term name stamp term None = []
counted_term name stamp term (Some count) =
    record { name = name; stamp = stamp; term = term; count = count } ∷ []

-- the counted ones of a setting's terms
abbrev pub counted_below : List ℕ → Stamp → List TermValue → ℕ → List BudgetTold
counted_below name stamp terms zero = []
counted_below name stamp terms (suc term) =
    counted_below name stamp terms term ++ counted_term name stamp term (count_of (slice_get terms term))

unfoldable pub counted_in : List ℕ → Stamp → List TermValue → List BudgetTold
counted_in name stamp terms = counted_below name stamp terms (length terms)

-- those of a text; one that is refused sets nothing
abbrev pub terms_of : Result (List TermValue) ActionFault → List TermValue
terms_of (Ok terms) = terms
terms_of (Err fault) = []

abbrev pub counted_set : List ℕ → List ℕ → ReplyTold → List BudgetTold
counted_set name text (was_set stamp) = counted_in name stamp (terms_of (reading text))
counted_set name text _ = []

-- those of the points of a load, which get one stamp after the other
abbrev pub counted_loaded : ℕ → List (List ℕ × List TermValue) → Known → List BudgetTold
counted_loaded node [] known = []
counted_loaded node (point ∷ points) known =
    counted_in point.0 (next_stamp node known) point.1
    ++ counted_loaded node points (made [] point.0 (next_stamp node known) known)

-- of a call of a node, by its clock
abbrev pub counted_by : ℕ → Known → AskTold → ReplyTold → List BudgetTold
counted_by node known (sets name text) reply = counted_set name text reply
counted_by node known (loads text) reply = counted_loaded node (points_loaded text) known
counted_by node known _ reply = []

-- what each node knows, and the terms so far
pub record ListingTold : Type 0 where
  pub known : List Known
  pub budgets : List BudgetTold

abbrev pub first_listing : ℕ → ListingTold
first_listing nodes = record { known = replicate nodes knows_nothing; budgets = [] }

abbrev pub listing_by : ℕ → ℕ → Told → ListingTold → Option Known → ListingTold
listing_by nodes node call s None = s
listing_by nodes node call s (Some known) = record {
  known = slice_set s.known node (known_after nodes [] node call.ask call.reply known);
  budgets = s.budgets ++ counted_by node known call.ask call.reply;
}

unfoldable pub listing_after : ℕ → ℕ → Told → ListingTold → ListingTold
listing_after nodes node call s = listing_by nodes node call s (slice_get s.known node)

abbrev pub listing_after_at : ℕ → ℕ → Option Told → ListingTold → ListingTold
listing_after_at nodes node None s = s
listing_after_at nodes node (Some call) s = listing_after nodes node call s

unfoldable pub listing_at : Traces → ListingTold → Place → ListingTold
listing_at traces s place =
    listing_after_at (message_nodes traces) place.node (call_at traces place.node place.index) s

-- those of all calls that stand, in the order in which they do
pub record AreCounted (traces : Traces) (budgets : List BudgetTold) : Type 0 where
  pub columns : ℕ
  pub places : List Place
  pub placed : AreAllColumns traces columns places
  pub are : budgets ≡ (fold (listing_at traces) (first_listing (length traces)) places).budgets
