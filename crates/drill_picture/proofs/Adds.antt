-- The rights behind each column add up.
use Rattle.std.proofs.Common.{◌≡◌, inl, inr, ℕ, zero, suc, ◌+◌, ◌-◌, ◌<◌, ◌≤◌, ◌==◌, ◌&&◌, cond, Bool, true, false, List, [], ◌∷◌, drop, length, min, nat_lt, slice_get, slice_index, slice_set, sum, fold, filter, replicate, refl, sym, subst, ap, ◌∙◌, arith}
use Rattle.std.specs.Prelude.{Option, Some, None}
use Rattle.std.proofs.lemmas.Bool.Decides.{leb_tells}
use Rattle.std.proofs.lemmas.Grind.{common_steps}
use Rattle.std.proofs.Math.Seq.{drop-cons}
use Rattle.std.proofs.lemmas.List.{drop_all, get_or_past, length-replicate, length-set}
use Rattle.std.proofs.lemmas.List.Sums.{sum_by-cons, sum_by-set}
use Rattle.node_calls.specs.Told.{Told, AskTold, ReplyTold, sets, removes, loads, passes, shifts, grants, emits, delivers}
use Rattle.drill_picture.specs.declared.known.Known.{Known}
use Rattle.drill_picture.specs.declared.parcel.Parcel.{Parcel}
use Rattle.drill_picture.specs.declared.place.Place.{Place}
use Rattle.drill_picture.specs.Budgets.{BudgetTold, is_of_budget}
use Rattle.drill_picture.specs.Calls.{Traces, call_at}
use Rattle.drill_picture.specs.Charts.{below}
use Rattle.drill_picture.specs.Knowing.{entries_in, has_made_it, is_under, known_after}
use Rattle.drill_picture.specs.Laws.{AddsUp, ColumnsAddUp, LevelsReachTheWhole}
use Rattle.drill_picture.specs.Rights.{RowTold, after_arrival, after_grant, after_send, after_spend, fitting, is_brought}
use Rattle.drill_picture.specs.Scale.{ScaleTold, bin_of}
use Rattle.drill_picture.specs.Stories.{StoryTold, after_bin, after_call, after_call_at, after_message, after_place, message_nodes, ran, row_after, story_behind, story_from}

-- what holds of each row of so many nodes
record IsSound (n : ℕ) (row : RowTold) : Type 0 where
  adds : AddsUp row
  held : length row.held ≡ n
  way : length row.way ≡ n
  few : row.whole ≤ 18446744073709551615

set_sum : (held : List ℕ) (node new : ℕ) → node < length held →
    sum (slice_set held node new) + slice_index held node ≡ sum held + new
set_sum held node new within = sum_by-set (λ x. x) held node new 0 within

either : (n : ℕ) (t : Bool) (a b : RowTold) → IsSound n a → IsSound n b → IsSound n (cond t a b)
either n true a b adds other = adds
either n false a b adds other = other

-- what a list has somewhere is within it
within_of : (held : List ℕ) (node : ℕ) → 0 < slice_index held node → node < length held
within_of held node some = elim (leb_tells (suc node) (length held)) [
  | inl w ↦ w.1
  | inr w ↦
      let past : length held ≤ node = omega (arith, w.1) in
      let none : slice_index held node ≡ 0 = get_or_past held node 0 past in
      absurd (omega (arith, none, some))
]

-- taken here and put there
less_sum : (held : List ℕ) (node k : ℕ) → k ≤ slice_index held node →
    sum (slice_set held node (slice_index held node - k)) + k ≡ sum held
less_sum held node zero less = elim (leb_tells (suc node) (length held)) [
  | inl w ↦
      let e = set_sum held node (slice_index held node - 0) w.1 in
      omega (arith, e)
  | inr w ↦
      let past : length held ≤ node = omega (arith, w.1) in
      grind (arith, common_steps, past)
]
less_sum held node (suc k) less =
    let within : node < length held = within_of held node (omega (arith, less)) in
    let e = set_sum held node (slice_index held node - suc k) within in
    omega (arith, e, less)

more_sum : (held : List ℕ) (node k : ℕ) → node < length held →
    sum (slice_set held node (slice_index held node + k)) ≡ sum held + k
more_sum held node k within =
    let e = set_sum held node (slice_index held node + k) within in
    omega (arith, e)

grant_adds : (n : ℕ) (node amount : ℕ) (row : RowTold) → IsSound n row → IsSound n (after_grant node amount row)
unfolding after_grant
grant_adds n node amount row adds =
    let more = fitting row amount in
    let new : RowTold = record {
      whole = row.whole + more;
      spent = row.spent;
      held = slice_set row.held node (slice_index row.held node + more);
      way = row.way;
    } in
    let P : Bool → Type 0 = λ t. IsSound n (cond t new row) in
    elim (leb_tells (suc node) (length row.held)) [
      | inl w ↦
          let e = more_sum row.held node more w.1 in
          subst P (sym w.0) (record {
            adds = omega (arith, e, adds.adds);
            held = length-set row.held node _ ∙ adds.held;
            way = adds.way;
            few = omega (arith, adds.few);
          })
      | inr w ↦ subst P (sym w.0) adds
    ]

spend_adds : (n : ℕ) (node : ℕ) (row : RowTold) → IsSound n row → IsSound n (after_spend node row)
unfolding after_spend
spend_adds n node row adds =
    let new : RowTold = record {
      whole = row.whole;
      spent = row.spent + 1;
      held = slice_set row.held node (slice_index row.held node - 1);
      way = row.way;
    } in
    let P : Bool → Type 0 = λ t. IsSound n (cond t new row) in
    elim (leb_tells 1 (slice_index row.held node)) [
      | inl w ↦
          let e = less_sum row.held node 1 w.1 in
          subst P (sym w.0) (record {
            adds = omega (arith, e, adds.adds);
            held = length-set row.held node _ ∙ adds.held;
            way = adds.way;
            few = adds.few;
          })
      | inr w ↦ subst P (sym w.0) adds
    ]

send_adds : (n : ℕ) (node to amount : ℕ) (row : RowTold) → IsSound n row → IsSound n (after_send node to amount row)
unfolding after_send
send_adds n node to amount row adds =
    let k = min amount (slice_index row.held node) in
    let new : RowTold = record {
      whole = row.whole;
      spent = row.spent;
      held = slice_set row.held node (slice_index row.held node - k);
      way = slice_set row.way to (slice_index row.way to + k);
    } in
    let P : Bool → Type 0 = λ t. IsSound n (cond (t && nat_lt to (length row.way)) new row) in
    let Q : Bool → Type 0 = λ t. IsSound n (cond (true && t) new row) in
    elim (leb_tells (suc node) (length row.held)) [
      | inl v ↦ (elim (leb_tells (suc to) (length row.way)) [
        | inl w ↦
            let less : k ≤ slice_index row.held node = omega arith in
            let e = less_sum row.held node k less in
            let f = more_sum row.way to k w.1 in
            subst P (sym v.0) (subst Q (sym w.0) (record {
              adds = omega (arith, e, f, adds.adds);
              held = length-set row.held node _ ∙ adds.held;
              way = length-set row.way to _ ∙ adds.way;
              few = adds.few;
            }))
        | inr w ↦ subst P (sym v.0) (subst Q (sym w.0) adds)
      ])
      | inr v ↦ subst P (sym v.0) adds
    ]

arrival_adds : (n : ℕ) (node amount : ℕ) (row : RowTold) → IsSound n row → IsSound n (after_arrival node row amount)
unfolding after_arrival
arrival_adds n node amount row adds =
    let k = min amount (slice_index row.way node) in
    let new : RowTold = record {
      whole = row.whole;
      spent = row.spent;
      held = slice_set row.held node (slice_index row.held node + k);
      way = slice_set row.way node (slice_index row.way node - k);
    } in
    let P : Bool → Type 0 = λ t. IsSound n (cond t new row) in
    elim (leb_tells (suc node) (length row.held)) [
      | inl w ↦
          let less : k ≤ slice_index row.way node = omega arith in
          let e = more_sum row.held node k w.1 in
          let f = less_sum row.way node k less in
          subst P (sym w.0) (record {
            adds = omega (arith, e, f, adds.adds);
            held = length-set row.held node _ ∙ adds.held;
            way = length-set row.way node _ ∙ adds.way;
            few = adds.few;
          })
      | inr w ↦ subst P (sym w.0) adds
    ]

arrivals_add : (n : ℕ) (node : ℕ) (parcels : List Parcel) (row : RowTold) → IsSound n row →
    IsSound n (fold (λ r p. after_arrival node r p.amount) row parcels)
arrivals_add n node [] row adds = adds
arrivals_add n node (p ∷ parcels) row adds =
    arrivals_add n node parcels (after_arrival node row p.amount) (arrival_adds n node p.amount row adds)

message_adds : (n : ℕ) (b : BudgetTold) (nodes node : ℕ) (bytes : List ℕ) (parcels : List Parcel) (row : RowTold) →
    IsSound n row → IsSound n (after_message b nodes node bytes parcels row)
unfolding after_message
message_adds n b nodes node bytes parcels row adds =
    arrivals_add n node (filter (is_brought b node (entries_in nodes bytes)) parcels) row adds

row_adds : (n : ℕ) (b : BudgetTold) (nodes node : ℕ) (under : Bool) (parcels : List Parcel) (reply : ReplyTold)
    (ask : AskTold) (row : RowTold) → IsSound n row → IsSound n (row_after b nodes node under parcels ask reply row)
row_adds n b nodes node under parcels reply (sets name text) row adds = adds
row_adds n b nodes node under parcels reply (removes name) row adds = adds
row_adds n b nodes node under parcels reply (loads text) row adds = adds
row_adds n b nodes node under parcels reply (passes name) row adds =
    either n (ran b reply) (after_spend node row) row (spend_adds n node row adds) adds
row_adds n b nodes node under parcels reply (shifts name term to amount) row adds =
    either n (under && is_of_budget b name term) (after_send node to amount row) row
    (send_adds n node to amount row adds) adds
row_adds n b nodes node under parcels reply (grants name term amount) row adds =
    either n (under && is_of_budget b name term) (after_grant node amount row) row
    (grant_adds n node amount row adds) adds
row_adds n b nodes node under parcels reply (emits to) row adds = adds
row_adds n b nodes node under parcels reply (delivers bytes) row adds =
    either n under (after_message b nodes node bytes parcels row) row
    (message_adds n b nodes node bytes parcels row adds) adds

story_adds : (n : ℕ) (b : BudgetTold) (nodes node : ℕ) (call : Told) (s : StoryTold) (before : Option Known) →
    IsSound n s.row → IsSound n (story_from b nodes node call s before).row
story_adds n b nodes node call s None adds = adds
story_adds n b nodes node call s (Some before) adds =
    let after = known_after nodes b.name node call.ask call.reply before in
    row_adds n b nodes node (is_under b after) s.parcels call.reply call.ask _
    (either n (has_made_it b node before after) (after_grant node b.count s.row) s.row
    (grant_adds n node b.count s.row adds) adds)

call_adds : (n : ℕ) (b : BudgetTold) (nodes node : ℕ) (call : Option Told) (s : StoryTold) → IsSound n s.row →
    IsSound n (after_call_at b nodes node call s).row
unfolding after_call
call_adds n b nodes node None s adds = adds
call_adds n b nodes node (Some call) s adds = story_adds n b nodes node call s (slice_get s.known node) adds

chosen : (n : ℕ) (t : Bool) (a b : StoryTold) → IsSound n a.row → IsSound n b.row → IsSound n (cond t a b).row
chosen n true a b adds other = adds
chosen n false a b adds other = other

place_adds : (n : ℕ) (traces : Traces) (scale : ScaleTold) (b : BudgetTold) (bin : ℕ) (s : StoryTold) (place : Place) →
    IsSound n s.row → IsSound n (after_place traces scale b bin s place).row
unfolding after_place
place_adds n traces scale b bin s place adds =
    chosen n (bin_of scale place.column == bin)
    (after_call_at b (message_nodes traces) place.node (call_at traces place.node place.index) s) s
    (call_adds n b (message_nodes traces) place.node (call_at traces place.node place.index) s adds) adds

places_add : (n : ℕ) (traces : Traces) (scale : ScaleTold) (b : BudgetTold) (bin : ℕ) (places : List Place) (s : StoryTold) →
    IsSound n s.row → IsSound n (fold (after_place traces scale b bin) s places).row
places_add n traces scale b bin [] s adds = adds
places_add n traces scale b bin (place ∷ places) s adds =
    places_add n traces scale b bin places (after_place traces scale b bin s place)
    (place_adds n traces scale b bin s place adds)

bin_adds : (n : ℕ) (traces : Traces) (scale : ScaleTold) (places : List Place) (b : BudgetTold) (bin : ℕ) (s : StoryTold) →
    IsSound n s.row → IsSound n (after_bin traces scale places b bin s).row
unfolding after_bin
bin_adds n traces scale places b bin s adds = places_add n traces scale b bin places s adds

zeros : (n : ℕ) → sum (replicate n 0) ≡ 0
zeros zero = refl
zeros (suc n) = grind (arith, common_steps)

sound : (traces : Traces) (scale : ScaleTold) (places : List Place) (b : BudgetTold) (bin : ℕ) →
    IsSound (length traces) (story_behind traces scale places b bin).row
sound traces scale places b zero =
    let e = zeros (length traces) in
    record {
      adds = omega (arith, e);
      held = length-replicate _ _;
      way = length-replicate _ _;
      few = omega arith;
    }
sound traces scale places b (suc bin) =
    bin_adds (length traces) traces scale places b bin _ (sound traces scale places b bin)

pub columns_add_up : ColumnsAddUp
columns_add_up traces scale places b bin = (sound traces scale places b bin).adds

-- what lies below a node's rights and what lies above are all of them
below_adds : (n : ℕ) (row : RowTold) → IsSound n row → (k : ℕ) → k ≤ n →
    below row k + (sum (drop k row.held) + sum (drop k row.way)) ≡ row.whole
below_adds n row s zero few = s.adds
below_adds n row s (suc k) few =
    let e1 : drop k row.held ≡ slice_index row.held k ∷ drop (suc k) row.held =
    drop-cons row.held k 0 (omega (arith, s.held, few)) in
    let e2 : drop k row.way ≡ slice_index row.way k ∷ drop (suc k) row.way =
    drop-cons row.way k 0 (omega (arith, s.way, few)) in
    let f1 : sum (drop k row.held) ≡ slice_index row.held k + sum (drop (suc k) row.held) =
    ap sum e1 ∙ sum_by-cons (λ x. x) (slice_index row.held k) (drop (suc k) row.held) in
    let f2 : sum (drop k row.way) ≡ slice_index row.way k + sum (drop (suc k) row.way) =
    ap sum e2 ∙ sum_by-cons (λ x. x) (slice_index row.way k) (drop (suc k) row.way) in
    let h = below_adds n row s k (omega (arith, few)) in
    omega (arith, f1, f2, h, s.few)

pub levels_reach_the_whole : LevelsReachTheWhole
levels_reach_the_whole traces scale places b bin =
    let row = (story_behind traces scale places b bin).row in
    let s = sound traces scale places b bin in
    let h = below_adds (length traces) row s (length traces) (omega arith) in
    let e1 : sum (drop (length traces) row.held) ≡ 0 = ap sum (drop_all (length traces) row.held (omega (arith, s.held))) in
    let e2 : sum (drop (length traces) row.way) ≡ 0 = ap sum (drop_all (length traces) row.way (omega (arith, s.way))) in
    omega (arith, h, e1, e2)
