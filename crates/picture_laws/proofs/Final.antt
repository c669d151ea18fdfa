-- The columns of a picture beside the world.
use Rattle.std.proofs.Common.{◌≡◌, inl, inr, ℕ, suc, ◌+◌, ◌-◌, ◌^◌, ◌<◌, ◌≤◌, cond, Bool, true, false, List, [], ◌∷◌, length, filter, reverse, slice_index, ◌==◌, refl, sym, ◌∙◌, ap, subst, arith, ⊎_elim, Option, Some, None}
use Rattle.std.proofs.lemmas.Bool.{le-leb}
use Rattle.std.proofs.lemmas.Bool.Decides.{leb_tells}
use Rattle.std.specs.Prelude.{pos}
use Rattle.counters.specs.Cells.{is_too_great}
use Rattle.counters.specs.Sums.{node_numbers, sum_below}
use Rattle.counters.proofs.SumLemmas.{sum-same, int_sum-pos}
use Rattle.stamp_register.specs.Keys.{KeyValue}
use Rattle.operations.specs.Operations.{Set, IsIn, count_of}
use Rattle.operations.proofs.Members.{IsIn-append_cases}
use Rattle.message_format.specs.Limits.{max_nodes}
use Rattle.replica_state.specs.Folds.{clock_of}
use Rattle.node_calls.specs.Told.{Told, AskTold, ReplyTold}
use Rattle.node_calls.specs.Told as tells
use Rattle.node_calls.specs.Asks.{Asked, asked_from, answered_from}
use Rattle.node_calls.specs.Asks as asks
use Rattle.node_steps.specs.Nodes.{Node}
use Rattle.node_steps.specs.Settings.{settings, operations_issued, points_in}
use Rattle.node_steps.specs.Refusals.{faults_of}
use Rattle.node_core.specs.Steps.{reply}
use Rattle.cluster_model.specs.Worlds.{Cluster, Event, config_of, accepted, world}
use Rattle.cluster_model.specs.Schedules.{IsSchedule}
use Rattle.cluster_model.specs.Histories.{keys_by, keys_issued, IsIssued, moved, seen, in_transit, all_granted}
use Rattle.cluster_model.proofs.Steps.{asked_is}
use Rattle.cluster_model.proofs.Passes.{none_applies, not_true}
use Rattle.cluster_model.proofs.Stamps.{OneStamp, one_stamp, one_before, issued_past}
use Rattle.cluster_model.proofs.Closed.{deltas_are_schedules}
use Rattle.cluster_model.proofs.Conserved.{seen_moved}
use Rattle.cluster_model.proofs.Replays.{node_is_replay}
use Rattle.cluster_model.proofs.Rights.{int_less}
use Rattle.audit.specs.Traces.{IsSized, AllLegal, audited}
use Rattle.audit.specs.Schedules.{event_of, events_of}
use Rattle.audit.specs.Places.{IsRun, steps_at}
use Rattle.audit.proofs.Steps.{step_of, steps_more}
use Rattle.audit.proofs.Scheduled.{IsUp, all_up, is_legal, low, now, is_accepted, legal_of_fits}
use Rattle.audit.proofs.ClockKept.{replay_clock}
use Rattle.drill_picture.specs.declared.place.Place.{Place}
use Rattle.drill_picture.specs.Budgets.{BudgetTold}
use Rattle.drill_picture.specs.Calls.{Traces}
use Rattle.drill_picture.specs.Placing.{columns_of}
use Rattle.drill_picture.specs.Stories.{StoryTold, first_story, after_call_at, message_nodes, story_behind}
use Rattle.picture_laws.specs.Laws.{order_before, events_before, IsRowOf, budget_of_key, ColumnsAreASchedule, ColumnsTellTheWorld, YesIsLegal}
use Rattle.picture_laws.proofs.Rows.{most}
use Rattle.picture_laws.proofs.Chains.{between, amounts_by, chain_sum}
use Rattle.picture_laws.proofs.Knows.{HasRoom}
use Rattle.picture_laws.proofs.Columns.{call_is_entry, placed}
use Rattle.picture_laws.proofs.Balanced.{rights_at, held_at}
use Rattle.picture_laws.proofs.Tells.{yet, Tells, first_tells}
use Rattle.picture_laws.proofs.Told.{IsAnswered, fits_then, call_tells}
use Rattle.picture_laws.proofs.Bins.{is_before, first_run, story_is, story_of, story_placed}

-- ---- a schedule

pub columns_are_a_schedule : ColumnsAreASchedule
columns_are_a_schedule traces scale columns bin is legal =
    let up = all_up scale.nodes traces is.sized legal (reverse (order_before scale (columns_of traces columns) bin))
    (first_run scale is.some traces columns bin) in
    record { schedule = up.schedule; told = up.told }

pub yes_is_legal : YesIsLegal
yes_is_legal nodes traces lists found is = (
  is.0,
  legal_of_fits nodes traces (record {
    trace_cap = 2 ^ 32 - 1;
    small = omega arith;
    steps = steps_at traces (reverse found.order.items);
    fits = is.1.schedule;
  }),
)

-- ---- what is issued has a clock

issued_some : (i clock : ℕ) (all : List (List ℕ × Option (List ℕ))) (name : List ℕ) (key : KeyValue) →
    IsIn (Set name key) (operations_issued i clock all) → 1 ≤ key.clock
issued_some i clock [] name key h = absurd h
issued_some i clock (setting ∷ rest) name key (inl e) =
    let clocks : key.clock ≡ clock + 1 = cc in
    omega (arith, clocks)
issued_some i clock (setting ∷ rest) name key (inr h) = issued_some i (clock + 1) rest name key h

keys_some : (i : ℕ) (n : Node) (a : Option Asked) (name : List ℕ) (key : KeyValue) → IsIn (Set name key) (keys_by i n a) →
    1 ≤ key.clock
keys_some i n None name key h = absurd h
keys_some i n (Some ask) name key h = issued_some i n.marks.clock (settings ask) name key h

clock_some : (c : Cluster) (es : List Event) (name : List ℕ) (key : KeyValue) → IsIssued c es name key → 1 ≤ key.clock
clock_some c [] name key h = absurd h
clock_some c (e ∷ es) name key h = ⊎_elim
    (λ k. keys_some e.node ((world c es).node e.node) (accepted c (world c es) e e.node) name key k)
    (λ k. clock_some c es name key k)
    (IsIn-append_cases (Set name key) (keys_by e.node ((world c es).node e.node) (accepted c (world c es) e e.node))
    (keys_issued c es) h)

-- ---- an accepted load has room for its clocks

room_of : (c : Cluster) (e : Event) (es : List Event) (ask : AskTold) (r : ReplyTold) →
    accepted c (world c es) e e.node ≡ Some (asked_from c.nodes ask r) → HasRoom ((world c es).node e.node) ask
room_of c e es (tells.loads text) r accepts =
    let n : Node = (world c es).node e.node in
    let agreed = (asked_is c (world c es) e e.node (asks.Load text) accepts).agreed in
    let all = none_applies (faults_of (config_of c e.node) (length ((world c es).trace e.node)) n (asks.Load text) e.words) agreed in
    let few : is_too_great (n.marks.clock + length (points_in text)) ≡ false = not_true _ _ all.1.1.1.0 in
    elim (leb_tells (suc (2 ^ 64 - 1)) (n.marks.clock + length (points_in text))) [
      | inl w ↦ absurd (let impossible : true ≡ false = sym w.0 ∙ few in cc)
      | inr w ↦ (let low_ = w.1 in omega (arith, low_))
    ]
room_of c e es (tells.sets name text) r accepts = tt
room_of c e es (tells.removes name) r accepts = tt
room_of c e es (tells.passes name) r accepts = tt
room_of c e es (tells.shifts name term to amount) r accepts = tt
room_of c e es (tells.grants name term amount) r accepts = tt
room_of c e es (tells.emits to) r accepts = tt
room_of c e es (tells.delivers bytes) r accepts = tt

-- ---- a run

few_numbers : (n : ℕ) → n ≤ max_nodes → n ≤ node_numbers
unfolding node_numbers
few_numbers n few = omega (arith, few)

module _ (nodes : ℕ) (traces : Traces) (sized : IsSized nodes traces) (legal : AllLegal nodes traces) (name : List ℕ)
    (key : KeyValue) (term count : ℕ) (counted : count_of key term ≡ Some count) (some : 1 ≤ key.clock) where
  abbrev c : Cluster
  c = audited nodes

  abbrev b : BudgetTold
  b = budget_of_key name key term count

  abbrev few : nodes ≤ node_numbers
  few = few_numbers nodes sized.few

  nodes_are : message_nodes traces ≡ nodes
  nodes_are = let long = sized.each in let low_ = sized.few in omega (arith, long, low_)

  abbrev events : List (ℕ × ℕ) → List Event
  events places = events_of nodes (steps_at traces places)

  abbrev TellsOf : List (ℕ × ℕ) → List Event → Type 0
  TellsOf places es = (s : IsSchedule c es) (one : OneStamp c es name key) →
      count + all_granted c es name key term ≤ most → Tells c few name key term count counted es s one (story_of traces b places)

  -- behind the places of a run
  run_tells : (places : List (ℕ × ℕ)) → IsRun traces places → TellsOf places (events places)
  run_tells [] run s one fits =
      subst (λ k. Tells c few name key term count counted [] s one (first_story k)) (sym sized.each)
      (first_tells c few name key term count counted some s one)
  run_tells (place ∷ earlier) run s one fits = whole (run_tells earlier run.1) s one fits
    where
      up : IsUp nodes traces sized legal earlier
      up = all_up nodes traces sized legal earlier run.1

      es : List Event
      es = events_of nodes (steps_at traces earlier)

      e : Event
      e = event_of nodes (step_of traces earlier place run.0)

      entry : Told
      entry = run.0.entry

      answered : IsAnswered c few name key term count counted (events_of nodes (steps_at traces earlier))
          (event_of nodes (step_of traces earlier place run.0)) run.0.entry
      answered = record {
        low = low nodes traces sized legal earlier place run up;
        ask = is_accepted nodes traces sized legal earlier place run up;
        reply = subst (λ n. answered_from nodes run.0.entry.reply ≡ reply place.0 n
            (asked_from nodes run.0.entry.ask run.0.entry.reply) run.0.entry.words)
            (sym (now nodes traces sized legal earlier place run up))
            (is_legal nodes traces sized legal earlier place run up).reply;
      }

      clocks : clock_of ((world c es).node place.0).ops ≤ ((world c es).node place.0).marks.clock
      clocks = subst (λ n. clock_of n.ops ≤ n.marks.clock) (sym (node_is_replay c es place.0))
          (replay_clock place.0 ((world c es).trace place.0))

      step : TellsOf earlier es → (s : IsSchedule c (e ∷ es)) (one : OneStamp c (e ∷ es) name key) →
          count + all_granted c (e ∷ es) name key term ≤ most →
          Tells c few name key term count counted (e ∷ es) s one (story_of traces b (place ∷ earlier))
      step before s one fits =
          subst (Tells c few name key term count counted (e ∷ es) s one) (sym path)
          (call_tells c few name key term count counted e es s one run.0.entry answered
          (room_of c e es run.0.entry.ask run.0.entry.reply answered.ask) clocks fits (story_of traces b earlier)
          (before s.1 (one_before c e es name key one) (fits_then c few name key term count counted e es s one fits)))
        where
          path : story_of traces b (place ∷ earlier) ≡ after_call_at b nodes place.0 (Some run.0.entry) (story_of traces b earlier)
          path = (λ r. after_call_at b (nodes_are r) place.0
              ((call_is_entry traces place.0 place.1 ∙ run.0.there) r) (story_of traces b earlier))

      whole : TellsOf earlier es → TellsOf (place ∷ earlier) (events (place ∷ earlier))
      whole before = subst (λ l. TellsOf (place ∷ earlier) l)
          (ap (λ s. events_of nodes s) (sym (steps_more traces earlier place run.0))) (step before)

-- ---- the rows

row_of : (c : Cluster) (few : c.nodes ≤ node_numbers) (name : List ℕ) (key : KeyValue) (term count : ℕ)
    (counted : count_of key term ≡ Some count) (es : List Event) (s : IsSchedule c es) (one : OneStamp c es name key)
    (t : StoryTold) → IsIssued c es name key → Tells c few name key term count counted es s one t →
    IsRowOf c es name key term count t.row
row_of c few name key term count counted es s one t issued is = record {
  whole = let whole = is.rights.whole_is in omega (arith, whole, none);
  spent = is.rights.spent_is;
  held = λ i low_. ap pos (held_is i low_) ∙ sym (held_at c few name key term count counted es s one i);
  way = λ j low_. ap pos (way_is j low_)
      ∙ sym (int_sum-pos c.nodes (λ i. in_transit c es name key term i j) (λ i. moved c es name key term i j - seen c es name key term i j)
      (λ i. int_less (moved c es name key term i j) (seen c es name key term i j) (seen_moved c es s name key term i j)));
}
  where
    none : yet c few name key term count counted es ≡ 0
    none = ap (λ t. cond t 0 count) (le-leb key.clock ((world c es).node key.node).marks.clock
        (issued_past c es name key issued).clock)

    held_is : (i : ℕ) → i < c.nodes → slice_index t.row.held i ≡ rights_at c few name key term count counted es s one i
    held_is i low_ =
        let here = is.rights.held_is i low_ in
        let zero_ : cond (i == key.node) (yet c few name key term count counted es) 0 ≡ 0 = zeros (i == key.node) _ none in
        omega (arith, here, zero_)
      where
        zeros : (t : Bool) (a : ℕ) → a ≡ 0 → cond t a 0 ≡ 0
        zeros true a e = e
        zeros false a e = refl

    way_is : (j : ℕ) → j < c.nodes → slice_index t.row.way j ≡ sum_below c.nodes
        (λ i. moved c es name key term i j - seen c es name key term i j)
    way_is j low_ = is.rights.way_is j low_ ∙ amounts_by c.nodes j t.parcels is.parcels.sound
        ∙ sum-same c.nodes _ _ (λ i l.
        let all = chain_sum (seen c es name key term i j) (moved c es name key term i j) (between i j t.parcels)
        (is.parcels.chain i j) in
        omega (arith, all))

pub columns_tell_the_world : ColumnsTellTheWorld
columns_tell_the_world traces scale columns bin is legal name key term count issued counted fits =
    subst (λ st. IsRowOf c es name key term count st.row) (sym story)
    (row_of c (few_numbers scale.nodes is.sized.few) name key term count counted es s one
    (story_of traces (budget_of_key name key term count) (placed places)) issued
    (run_tells scale.nodes traces is.sized legal name key term count counted (clock_some c es name key issued)
    (placed places) (first_run scale is.some traces columns bin) s one fits))
  where
    c : Cluster
    c = audited scale.nodes

    places : List Place
    places = filter (is_before scale is.some bin) (columns_of traces columns)

    es : List Event
    es = events_before traces scale (columns_of traces columns) bin

    s : IsSchedule c es
    s = deltas_are_schedules c es (columns_are_a_schedule traces scale columns bin is legal).schedule

    one : OneStamp c es name key
    one = one_stamp c es name key issued

    story : story_behind traces scale (columns_of traces columns) (budget_of_key name key term count) bin
        ≡ story_of traces (budget_of_key name key term count) (placed places)
    story = story_is scale is.some traces columns (budget_of_key name key term count) bin
        ∙ story_placed traces (budget_of_key name key term count) places []
