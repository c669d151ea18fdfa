-- The rights of a counted term, call by call, in the order in which the calls stand.
use Rattle.std.specs.Prelude.{ℕ, ◌==◌, ◌&&◌, Bool, false, not, List, [], ◌∷◌, ◌++◌, length, min, replicate, slice_get, slice_index, slice_set, if◌then◌else◌, filter, fold, zero, suc, Option, Some, None}
use Rattle.node_calls.specs.Told.{Told, AskTold, ReplyTold, Passed, Act, passes, shifts, grants, delivers, was_passed, was_shifted}
use Rattle.drill_picture.specs.declared.known.Known.{Known}
use Rattle.drill_picture.specs.declared.parcel.Parcel.{Parcel}
use Rattle.drill_picture.specs.declared.place.Place.{Place}
use Rattle.drill_picture.specs.declared.story.Story.{Story}
use Rattle.drill_picture.specs.Budgets.{BudgetTold, is_of_budget, same_stamp}
use Rattle.drill_picture.specs.Calls.{Traces, call_at}
use Rattle.drill_picture.specs.Knowing.{entries_in, has_made_it, is_under, known_after, knows_nothing}
use Rattle.drill_picture.specs.Rights.{RowTold, after_arrival, after_grant, after_send, after_spend, empty_row, is_brought}
use Rattle.drill_picture.specs.Scale.{ScaleTold, bin_of}

-- what a node knows of the point, and a parcel of rights
abbrev pub KnownTold : Type 0
KnownTold = Known

abbrev pub ParcelTold : Type 0
ParcelTold = Parcel

-- what each node knows of the point, where the rights are, and the parcels of rights that are on their way
pub record StoryTold : Type 0 where
  pub known : List Known
  pub row : RowTold
  pub parcels : List Parcel

abbrev pub story_told : Story → StoryTold
story_told s = record { known = s.known.items; row = s.row; parcels = s.parcels.items }

-- before the first call
abbrev pub first_story : ℕ → StoryTold
first_story nodes = record { known = replicate nodes knows_nothing; row = empty_row nodes; parcels = [] }

-- ---- of a call of a node, which has the setting or hasn't

-- the node that makes the setting has its count
abbrev pub after_making : BudgetTold → ℕ → Known → Known → RowTold → RowTold
after_making b node before after row = if has_made_it b node before after then after_grant node b.count row else row

-- a pass that ran the term
abbrev pub is_act : BudgetTold → Passed → Bool
is_act b (Act stamp term task) = same_stamp stamp b.stamp && (term == b.term)
is_act b _ = false

abbrev pub ran : BudgetTold → ReplyTold → Bool
ran b (was_passed outcome) = is_act b outcome
ran b _ = false

-- the parcels that a message brings arrive
unfoldable pub after_message : BudgetTold → ℕ → ℕ → List ℕ → List Parcel → RowTold → RowTold
after_message b nodes node bytes parcels row =
    fold (λ r p. after_arrival node r p.amount) row (filter (is_brought b node (entries_in nodes bytes)) parcels)

unfoldable pub left_by_message : BudgetTold → ℕ → ℕ → List ℕ → List Parcel → List Parcel
left_by_message b nodes node bytes parcels = filter (λ p. not (is_brought b node (entries_in nodes bytes) p)) parcels

-- where the rights are behind the call
abbrev pub row_after : BudgetTold → ℕ → ℕ → Bool → List Parcel → AskTold → ReplyTold → RowTold → RowTold
row_after b nodes node under parcels (passes name) reply row = if ran b reply then after_spend node row else row
row_after b nodes node under parcels (shifts name term to amount) reply row =
    if under && is_of_budget b name term then after_send node to amount row else row
row_after b nodes node under parcels (grants name term amount) reply row =
    if under && is_of_budget b name term then after_grant node amount row else row
row_after b nodes node under parcels (delivers bytes) reply row =
    if under then after_message b nodes node bytes parcels row else row
row_after b nodes node under parcels _ reply row = row

-- what a shift sends; the total that it is answered is told by the messages that bring it
abbrev pub sent_parcel : ℕ → ℕ → ℕ → ReplyTold → List Parcel
sent_parcel node to amount (was_shifted total) =
    record { from = node; to = to; total = total; amount = amount } ∷ []
sent_parcel node to amount _ = []

-- and which parcels are on their way, where the node held so many rights
abbrev pub parcels_after : BudgetTold → ℕ → ℕ → Bool → ℕ → AskTold → ReplyTold → List Parcel → List Parcel
parcels_after b nodes node under held (shifts name term to amount) reply parcels =
    if under && is_of_budget b name term then parcels ++ sent_parcel node to (min amount held) reply else parcels
parcels_after b nodes node under held (delivers bytes) reply parcels =
    if under then left_by_message b nodes node bytes parcels else parcels
parcels_after b nodes node under held _ reply parcels = parcels

-- ---- all of it

-- what the node knows is known, and its setting has its count
abbrev pub after_knowing : BudgetTold → ℕ → Known → Known → StoryTold → StoryTold
after_knowing b node before after s = record {
  known = slice_set s.known node after;
  row = after_making b node before after s.row;
  parcels = s.parcels;
}

abbrev pub after_acting : BudgetTold → ℕ → ℕ → Bool → Told → StoryTold → StoryTold
after_acting b nodes node under call s = record {
  known = s.known;
  row = row_after b nodes node under s.parcels call.ask call.reply s.row;
  parcels = parcels_after b nodes node under (slice_index s.row.held node) call.ask call.reply s.parcels;
}

-- behind a shift of rights to the term, and behind a delivery, of a node that has the setting
abbrev pub after_shift : ℕ → ℕ → ℕ → ReplyTold → StoryTold → StoryTold
after_shift node to amount reply s = record {
  known = s.known;
  row = after_send node to amount s.row;
  parcels = s.parcels ++ sent_parcel node to (min amount (slice_index s.row.held node)) reply;
}

abbrev pub after_delivery : BudgetTold → ℕ → ℕ → List ℕ → StoryTold → StoryTold
after_delivery b nodes node bytes s = record {
  known = s.known;
  row = after_message b nodes node bytes s.parcels s.row;
  parcels = left_by_message b nodes node bytes s.parcels;
}

abbrev pub story_by : BudgetTold → ℕ → ℕ → Told → StoryTold → Known → Known → StoryTold
story_by b nodes node call s before after =
    after_acting b nodes node (is_under b after) call (after_knowing b node before after s)

abbrev pub story_from : BudgetTold → ℕ → ℕ → Told → StoryTold → Option Known → StoryTold
story_from b nodes node call s None = s
story_from b nodes node call s (Some before) =
    story_by b nodes node call s before (known_after nodes b.name node call.ask call.reply before)

-- behind a call of a node, in a cluster of so many nodes
unfoldable pub after_call : BudgetTold → ℕ → ℕ → Told → StoryTold → StoryTold
after_call b nodes node call s = story_from b nodes node call s (slice_get s.known node)

abbrev pub after_call_at : BudgetTold → ℕ → ℕ → Option Told → StoryTold → StoryTold
after_call_at b nodes node None s = s
after_call_at b nodes node (Some call) s = after_call b nodes node call s

-- how many nodes the messages of these traces may name
abbrev pub message_nodes : Traces → ℕ
message_nodes traces = min (length traces) 255

-- the call at a place, if this column of the picture holds it
unfoldable pub after_place : Traces → ScaleTold → BudgetTold → ℕ → StoryTold → Place → StoryTold
after_place traces scale b bin s place =
    if bin_of scale place.column == bin
    then after_call_at b (message_nodes traces) place.node (call_at traces place.node place.index) s
    else s

-- all calls that it holds
unfoldable pub after_bin : Traces → ScaleTold → List Place → BudgetTold → ℕ → StoryTold → StoryTold
after_bin traces scale places b bin s = fold (after_place traces scale b bin) s places

-- behind so many columns
abbrev pub story_behind : Traces → ScaleTold → List Place → BudgetTold → ℕ → StoryTold
story_behind traces scale places b zero = first_story (length traces)
story_behind traces scale places b (suc bin) =
    after_bin traces scale places b bin (story_behind traces scale places b bin)
