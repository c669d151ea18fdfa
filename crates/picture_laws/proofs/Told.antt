-- A chart's story beside the world, call by call.
use Rattle.std.proofs.Common.{◌≡◌, ◌≢◌, ◌⊎◌, inl, inr, ℕ, ◌+◌, ◌<◌, ◌≤◌, ◌==◌, ◌&&◌, min, cond, Bool, true, false, not, List, [], ◌∷◌, ◌++◌, length, filter, fold, nat_le, nat_lt, slice_get, slice_index, slice_set, refl, sym, ◌∙◌, ap, subst, arith, ⊎_elim, Some, None}
use Rattle.std.proofs.lemmas.Bool.{true≢false, eqb-true, eqb-false, eq-eqb, cases_eq, and_parts, and_from, and_left, and_right, le-leb, lt-ltb}
use Rattle.std.proofs.lemmas.Bool.Decides.{leb_tells, eqb_tells}
use Rattle.std.proofs.lemmas.List.{length-set}
use Rattle.std.specs.Str.{bytes_eq}
use Rattle.counters.specs.Sums.{node_numbers, sum_below}
use Rattle.counters.proofs.SumLemmas.{sum-same, sum-zero, sum-le}
use Rattle.stamp_register.specs.Keys.{KeyValue, stamp_of}
use Rattle.operations.specs.Operations.{Shifts, Operation, Set, Count, IsIn, count_of}
use Rattle.operations.proofs.Members.{IsIn-append_cases}
use Rattle.message_format.specs.Messages.{EntryValue, operations_of}
use Rattle.message_format.proofs.Members.{flat_in}
use Rattle.replica_state.specs.States.{State}
use Rattle.replica_state.specs.Folds.{number_at, clock_of}
use Rattle.replica_state.proofs.Orders.{bytes_eq-true, bytes_eq-refl}
use Rattle.replica_state.proofs.KnownSets.{own_name}
use Rattle.node_calls.specs.Told.{Told, AskTold, ReplyTold, Passed}
use Rattle.node_calls.specs.Told as tells
use Rattle.node_calls.specs.Asks.{Asked, Message, read_of, message_read, emit_of, emit_asked_by, asked_from, answered_from}
use Rattle.node_calls.specs.Asks as asks
use Rattle.node_steps.specs.Nodes.{Node, state_shown, setting_of}
use Rattle.node_steps.specs.Settings.{settings}
use Rattle.node_steps.specs.Refusals.{message_in, refusal_at, faults_of, faults_of_shift}
use Rattle.node_core.specs.Steps.{after, reply}
use Rattle.cluster_model.specs.Worlds.{Cluster, Event, config_of, accepted, node_after, world}
use Rattle.cluster_model.specs.Schedules.{IsSchedule}
use Rattle.cluster_model.specs.Histories.{state_of, ops_issued, ops_delivered, keys_by, is_act_of, acts, is_key, is_under, amount_moved, moved, amount_granted, granted, all_granted}
use Rattle.cluster_model.proofs.Steps.{asked_is, known, delivered_was_sent}
use Rattle.cluster_model.proofs.Passes.{Outcome, NotSet, Nothing, Triggered, IsOutcome, HasOutcome, passed_as, outcome_of, none_applies, not_true, IsShifted, shifted_is}
use Rattle.cluster_model.proofs.Stamps.{OneStamp, one_before, carried, under_issued, issued_past, clock_grows}
use Rattle.cluster_model.proofs.OwnCells.{OneHere, same_call, acted, one_here, own_shifts}
use Rattle.cluster_model.proofs.Rights.{is_key-of, is_key-some}
use Rattle.drill_picture.specs.Stories.{KnownTold as Known}
use Rattle.drill_picture.specs.Stories.{ParcelTold as Parcel}
use Rattle.drill_picture.specs.Budgets.{BudgetTold, is_of_budget}
use Rattle.drill_picture.specs.Knowing.{told_by, entries_in, known_after, knows_nothing}
use Rattle.drill_picture.specs.Knowing as knowing
use Rattle.drill_picture.specs.Rights.{RowTold, after_arrival, after_grant, after_spend, after_send, is_brought}
use Rattle.drill_picture.specs.Stories.{StoryTold, after_making, ran, after_message, left_by_message, row_after, parcels_after, sent_parcel, after_knowing, after_acting, story_by, story_from, after_call}
use Rattle.picture_laws.specs.Laws.{budget_of_key}
use Rattle.picture_laws.proofs.Rows.{most, row_same, make_is, grant_is, spend_is, send_is}
use Rattle.picture_laws.proofs.Chains.{amounts, amounts_to, amounts_to_append, amounts_parted, amounts_other, arrivals}
use Rattle.picture_laws.proofs.Knows.{known_of, kept_key, HasRoom, knows_after, not_below, under_is}
use Rattle.picture_laws.proofs.Brought.{AreOfKey, alike, brought_is}
use Rattle.picture_laws.proofs.Balanced.{not_asked, rights_at}
use Rattle.picture_laws.proofs.Parcels.{cases_to, same_row, HasParcels, way_seen, moved_else, moved_here, seen_same, seen_not_under, same_parcels, one_sent, some_arrive}
use Rattle.picture_laws.proofs.Seen.{own_number}
use Rattle.picture_laws.proofs.Calls.{get_set_same, get_set_other, moved_if, turned, sum_there, cond_zero, no_count, no_shift_passed, IsShift, shift_issued, message_ops, emit_by, ran_is}
use Rattle.picture_laws.proofs.Changes.{Stays, granted_more, spent_more, rights_else, rights_here, rights_still, by_node}
use Rattle.picture_laws.proofs.Tells as story

-- ---- the whole of it

module _ (c : Cluster) (few : c.nodes ≤ node_numbers) (name : List ℕ) (key : KeyValue) (term count : ℕ)
    (counted : count_of key term ≡ Some count) where
  abbrev b : BudgetTold
  b = budget_of_key name key term count

  abbrev yet : List Event → ℕ
  yet es = story.yet c few name key term count counted es

  abbrev HasRow : (es : List Event) (s : IsSchedule c es) → OneStamp c es name key → ℕ → List Parcel → RowTold → Type 0
  HasRow es s one left parcels row = story.HasRow c few name key term count counted es s one left parcels row

  abbrev Tells : (es : List Event) (s : IsSchedule c es) → OneStamp c es name key → StoryTold → Type 0
  Tells es s one t = story.Tells c few name key term count counted es s one t

  -- ---- a call

  -- an event is this call, of a node that accepts it and answers so
  pub record IsAnswered (es : List Event) (e : Event) (t : Told) : Type 0 where
    pub low : e.node < c.nodes
    pub ask : accepted c (world c es) e e.node ≡ Some (asked_from c.nodes t.ask t.reply)
    pub reply : answered_from c.nodes t.reply ≡ reply e.node ((world c es).node e.node)
        (asked_from c.nodes t.ask t.reply) e.words

  module _ (e : Event) (es : List Event) (s : IsSchedule c (e ∷ es)) (one : OneStamp c (e ∷ es) name key) where
    abbrev i : ℕ
    i = e.node

    abbrev n : Node
    n = (world c es).node e.node

    abbrev one_then : OneStamp c es name key
    one_then = one_before c e es name key one

    abbrev rights_then : ℕ → ℕ
    rights_then j = rights_at c few name key term count counted es s.1 one_then j

    abbrev rights_now : ℕ → ℕ
    rights_now j = rights_at c few name key term count counted (e ∷ es) s one j

    abbrev under : Bool
    under = is_under c (e ∷ es) name key e.node

    -- a node under the key has it counted
    made_under : under ≡ true → yet (e ∷ es) ≡ 0
    made_under u =
        let held = is_key-of key ((state_of c (e ∷ es) e.node).key name) u in
        let past = issued_past c (e ∷ es) name key (under_issued c (e ∷ es) (carried c (e ∷ es) s) e.node name key held) in
        ap (λ t. cond t 0 count) (le-leb key.clock ((world c (e ∷ es)).node key.node).marks.clock past.clock)

    -- ---- the node makes the setting

    making_at : (row : RowTold) (parcels : List Parcel) → e.node < c.nodes →
        count + all_granted c es name key term ≤ most →
        HasRow es s.1 one_then (yet es) parcels row →
        HasRow es s.1 one_then (yet (e ∷ es)) parcels
        (after_making b e.node (known_of name n) (known_of name ((world c (e ∷ es)).node e.node)) row)
    making_at row parcels low fits has = elim (eqb_tells e.node key.node) [
      | inl w ↦ by_clock w.0 w.1
      | inr w ↦
          let same : (world c (e ∷ es)).node key.node ≡ (world c es).node key.node =
          ap (λ a. node_after key.node ((world c es).node key.node) a e.words)
          (not_asked c (world c es) e key.node (λ f. w.1 (sym f))) in
          subst P (sym (ap (λ t. cond (t && clocks) (after_grant e.node count row) row) w.0))
          (subst (λ left. HasRow es s.1 one_then left parcels row)
          (sym (ap (λ (m : Node). cond (nat_le key.clock m.marks.clock) 0 count) same)) has)
    ]
      where
        clocks : Bool
        clocks = nat_lt n.marks.clock key.clock && nat_le key.clock ((world c (e ∷ es)).node e.node).marks.clock

        P : RowTold → Type 0
        P r = HasRow es s.1 one_then (yet (e ∷ es)) parcels r

        was : ℕ
        was = n.marks.clock

        is_now : ℕ
        is_now = ((world c (e ∷ es)).node e.node).marks.clock

        left_at : (t : Bool) (k : ℕ) → nat_le key.clock k ≡ t → cond (nat_le key.clock k) 0 count ≡ cond t 0 count
        left_at t k e = ap (λ t. cond t 0 count) e

        unmade : (t u : Bool) → nat_le key.clock was ≡ t → nat_le key.clock is_now ≡ u → e.node ≡ key.node →
            cond t 0 count ≡ cond u 0 count → clocks ≡ false → P (cond ((e.node == key.node) && clocks) (after_grant e.node count row) row)
        unmade t u p q same left f =
            let before : yet es ≡ cond t 0 count =
            ap (λ k. cond (nat_le key.clock ((world c es).node k).marks.clock) 0 count) (sym same) ∙ left_at t was p in
            let now : yet (e ∷ es) ≡ cond u 0 count =
            ap (λ k. cond (nat_le key.clock ((world c (e ∷ es)).node k).marks.clock) 0 count) (sym same) ∙ left_at u is_now q in
            subst P (sym (ap (λ t. cond t (after_grant e.node count row) row) (and_right (e.node == key.node) clocks f)))
            (subst (λ k. HasRow es s.1 one_then k parcels row) (before ∙ left ∙ sym now) has)

        by_clock : (e.node == key.node) ≡ true → e.node ≡ key.node →
            P (cond ((e.node == key.node) && clocks) (after_grant e.node count row) row)
        by_clock t same = elim (leb_tells key.clock was) [
          | inl v ↦
              let grows = clock_grows e.node n (accepted c (world c es) e e.node) e.words in
              let low_was = v.1 in
              let up : key.clock ≤ is_now = omega (arith, grows, low_was) in
              unmade true true v.0 (le-leb key.clock is_now up) same refl
              (and_left (nat_lt was key.clock) (nat_le key.clock is_now) (not_below was key.clock low_was))
          | inr v ↦ (elim (leb_tells key.clock is_now) [
            | inl w ↦
                let both : ((e.node == key.node) && clocks) ≡ true = and_from (e.node == key.node) clocks t
                (and_from (nat_lt was key.clock) (nat_le key.clock is_now) (lt-ltb was key.clock v.1) w.0) in
                let before : yet es ≡ count =
                ap (λ k. cond (nat_le key.clock ((world c es).node k).marks.clock) 0 count) (sym same) ∙ left_at false was v.0 in
                let now : yet (e ∷ es) ≡ 0 =
                ap (λ k. cond (nat_le key.clock ((world c (e ∷ es)).node k).marks.clock) 0 count) (sym same) ∙ left_at true is_now w.0 in
                subst P (sym (ap (λ t. cond t (after_grant e.node count row) row) both))
                (subst (λ k. HasRow es s.1 one_then (yet (e ∷ es)) parcels (after_grant k count row)) (sym same)
                (subst (λ k. HasRow es s.1 one_then k parcels (after_grant key.node count row)) (sym now)
                (make_is c.nodes key.node count _ _ _ _ row (subst (λ k. k < c.nodes) same low) fits
                (subst (λ k. HasRow es s.1 one_then k parcels row) before has))))
            | inr w ↦ unmade false false v.0 w.0 same refl
                (and_right (nat_lt was key.clock) (nat_le key.clock is_now) w.0)
          ])
        ]

    -- what the node holds by the chart is what it holds
    held_then : (row : RowTold) (parcels : List Parcel) → e.node < c.nodes → under ≡ true →
        HasRow es s.1 one_then (yet (e ∷ es)) parcels row → slice_index row.held e.node ≡ rights_then e.node
    held_then row parcels low u has =
        let here = has.held_is e.node low in
        let none : ◌≡◌ {A = ℕ} (cond (e.node == key.node) (yet (e ∷ es)) 0) 0 =
        cond_zero (e.node == key.node) (yet (e ∷ es)) (made_under u) in
        omega (arith, here, none)

    -- ---- what the call does, kind by kind

    pub record HasBoth (row : RowTold) (parcels : List Parcel) : Type 0 where
      pub rights : HasRow (e ∷ es) s one (yet (e ∷ es)) parcels row
      pub parcels_are : HasParcels c name key term (e ∷ es) parcels

    -- an ask that neither moves nor runs nor grants nor brings anything
    record IsQuiet (q : Asked) : Type 0 where
      pub stays : Stays c few name key term count counted e es s one
      pub moves : (j : ℕ) → amount_moved n (Some q) name key term j ≡ 0
      pub grants : amount_granted n (Some q) name key term ≡ 0
      pub spends : acted (stamp_of key) term e.node n (Some q) e.words ≡ 0
      pub own : (j number : ℕ) → e.node ≢ j → IsIn (Count (Shifts name key term e.node j) number)
          (ops_issued e.node n (Some q) e.words) → ⊥

    same_number : (f g : ℕ → ℕ) (j k : ℕ) → j ≡ k → f k ≡ g k → f j ≡ g j
    same_number f g j k same is = subst (λ m. f m ≡ g m) (sym same) is

    quiet_row : (q : Asked) → accepted c (world c es) e e.node ≡ Some q → e.node < c.nodes → IsQuiet q → (row : RowTold)
        (parcels : List Parcel) → HasRow es s.1 one_then (yet (e ∷ es)) parcels row →
        HasRow (e ∷ es) s one (yet (e ∷ es)) parcels row
    quiet_row q accepts low quiet row parcels has =
        let grown = granted_more c few name key term count counted e es s one q accepts low in
        let spent = spent_more c few name key term count counted e es s one q accepts low in
        let gr = quiet.grants in
        let sp = quiet.spends in
        let moved_none : sum_below c.nodes (λ j. amount_moved n (Some q) name key term j) ≡ 0 =
        sum-zero c.nodes _ quiet.moves in
        let here = rights_still c few name key term count counted e es s one q accepts quiet.stays in
        row_same c.nodes key.node (yet (e ∷ es)) _ _ _ _ rights_then (λ j. amounts_to j parcels) rights_now
        (λ j. amounts_to j parcels) row has (omega (arith, grown, gr)) (omega (arith, spent, sp))
        (λ j l. ⊎_elim
        (λ same. same_number rights_then rights_now j e.node same (omega (arith, here, moved_none, sp, gr)))
        (λ ne. sym (rights_else c few name key term count counted e es s one q accepts j ne)) (cases_eq j e.node))
        (λ j l. refl)

    quiet_both : (q : Asked) → accepted c (world c es) e e.node ≡ Some q → e.node < c.nodes → IsQuiet q → (row : RowTold)
        (parcels : List Parcel) → HasRow es s.1 one_then (yet (e ∷ es)) parcels row →
        HasParcels c name key term es parcels → HasBoth row parcels
    quiet_both q accepts low quiet row parcels has parts = record {
      rights = quiet_row q accepts low quiet row parcels has;
      parcels_are = same_parcels c name key term e es s q accepts parcels parts quiet.stays quiet.moves quiet.own;
    }

    -- the key is as it was
    key_kept : (q : Asked) → accepted c (world c es) e e.node ≡ Some q →
        ((op : Operation) → IsIn op (keys_by e.node n (Some q)) → ⊥) →
        ((op : Operation) → IsIn op (node_after e.node n (Some q) e.words).ops →
        IsIn op (ops_issued e.node n (Some q) e.words) ⊎ IsIn op n.ops) →
        under ≡ is_key key ((state_shown n).key name)
    key_kept q accepts no_keys from =
        ap (λ a. is_key key ((state_shown (node_after e.node n a e.words)).key name)) accepts
        ∙ ap (is_key key) (kept_key e.node n (Some q) e.words name no_keys from)

    -- whether it is of the term of the key, as the chart and as the world has it
    test_is : (other : List ℕ) (t : ℕ) → under ≡ is_key key ((state_shown n).key name) →
        (under && is_of_budget b other t) ≡ (bytes_eq other name && (t == term && is_key key ((state_shown n).key other)))
    test_is other t kept = alike _ _
        (λ h.
        let p = and_parts under (is_of_budget b other t) h in
        let q = and_parts (bytes_eq other name) (t == term) p.1 in
        let names = bytes_eq-true other name q.0 in
        and_from (bytes_eq other name) _ q.0 (and_from (t == term) _ q.1
        (ap (λ m. is_key key ((state_shown n).key m)) names ∙ sym kept ∙ p.0)))
        (λ h.
        let p = and_parts (bytes_eq other name) _ h in
        let q = and_parts (t == term) (is_key key ((state_shown n).key other)) p.1 in
        let names = bytes_eq-true other name p.0 in
        and_from under (is_of_budget b other t)
        (kept ∙ ap (λ m. is_key key ((state_shown n).key m)) (sym names) ∙ q.1)
        (and_from (bytes_eq other name) (t == term) p.0 q.0))

    grant_ops : (m : Node) (other : List ℕ) (t amount : ℕ) (op : Operation) →
        IsIn op (node_after e.node m (Some (asks.Grant other t amount)) e.words).ops →
        IsIn op (ops_issued e.node m (Some (asks.Grant other t amount)) e.words) ⊎ IsIn op m.ops
    unfolding after
    grant_ops m other t amount op h = IsIn-append_cases op _ _ h

    shift_ops : (m : Node) (other : List ℕ) (t to amount : ℕ) (op : Operation) →
        IsIn op (node_after e.node m (Some (asks.Shift other t to amount)) e.words).ops →
        IsIn op (ops_issued e.node m (Some (asks.Shift other t to amount)) e.words) ⊎ IsIn op m.ops
    unfolding after
    shift_ops m other t to amount op h = IsIn-append_cases op _ _ h

    -- ---- a pass

    pass_no_shift : (other : List ℕ) (j number : ℕ) → e.node ≢ j → IsIn (Count (Shifts name key term e.node j) number)
        (ops_issued e.node n (Some (asks.Pass other)) e.words) → ⊥
    pass_no_shift other j number ne h =
        let o = outcome_of e.node (state_shown n) other e.words in
        no_shift_passed e.node (state_shown n) other o.outcome (Count (Shifts name key term e.node j) number)
        (subst (λ os. IsIn (Count (Shifts name key term e.node j) number) os) o.ops h) name key term e.node j number refl

    pass_ops_are : (m : Node) (other : List ℕ) (op : Operation) →
        IsIn op (node_after e.node m (Some (asks.Pass other)) e.words).ops →
        IsIn op (ops_issued e.node m (Some (asks.Pass other)) e.words) ⊎ IsIn op m.ops
    unfolding after
    pass_ops_are m other op h = IsIn-append_cases op _ _ h

    pass_kept : (other : List ℕ) → accepted c (world c es) e e.node ≡ Some (asks.Pass other) →
        under ≡ is_key key ((state_shown n).key name)
    pass_kept other accepts = key_kept (asks.Pass other) accepts (λ op h. h) (pass_ops_are n other)

    -- a pass that ran a term of the key had the key
    keyed_by : (v : State) (other : List ℕ) (o : Outcome) → OneHere v name key → IsOutcome e.node v other o →
        is_act_of (stamp_of key) term (passed_as o) ≡ true → v.key name ≡ Some key
    keyed_by v other NotSet one_of is f = absurd (true≢false (sym f))
    keyed_by v other (Nothing k) one_of is f = absurd (true≢false (sym f))
    keyed_by v other (Triggered k t n_ task) one_of is f =
        let same = same_call e.node v other name k key t term n_ one_of is f in
        subst (λ m. v.key m ≡ Some key) same.names (is.under ∙ ap Some same.keys)

    passed_both : (other : List ℕ) (r : ReplyTold) → accepted c (world c es) e e.node ≡ Some (asks.Pass other) →
        answered_from c.nodes r ≡ reply e.node n (asks.Pass other) e.words → e.node < c.nodes →
        (row : RowTold) (parcels : List Parcel) → HasRow es s.1 one_then (yet (e ∷ es)) parcels row →
        HasParcels c name key term es parcels → HasBoth (cond (ran b r) (after_spend e.node row) row) parcels
    passed_both other r accepts rep low row parcels has parts = at (ran b r) refl
      where
        stay : Stays c few name key term count counted e es s one
        stay = seen_same c name key term e es s (asks.Pass other) accepts refl

        test : ran b r ≡ acts (stamp_of key) term (reply e.node n (asks.Pass other) e.words)
        test = ran_is name key term count c.nodes r ∙ ap (acts (stamp_of key) term) rep

        parts_now : HasParcels c name key term (e ∷ es) parcels
        parts_now = same_parcels c name key term e es s (asks.Pass other) accepts parcels parts stay (λ j. refl)
            (pass_no_shift other)

        at : (t : Bool) → ran b r ≡ t → HasBoth (cond t (after_spend e.node row) row) parcels
        at false f = quiet_both (asks.Pass other) accepts low (record {
          stays = stay;
          moves = λ j. refl;
          grants = refl;
          spends = ap (λ t. cond t 1 0) (sym test ∙ f);
          own = pass_no_shift other;
        }) row parcels has parts
        at true f = record { rights = spent; parcels_are = parts_now }
          where
            acts_one : acted (stamp_of key) term e.node n (Some (asks.Pass other)) e.words ≡ 1
            acts_one = ap (λ t. cond t 1 0) (sym test ∙ f)

            o : HasOutcome e.node (state_shown n) other e.words (setting_of (state_shown n) other)
            o = outcome_of e.node (state_shown n) other e.words

            ran_it : is_act_of (stamp_of key) term (passed_as o.outcome) ≡ true
            ran_it = ap (λ p. is_act_of (stamp_of key) term p) (sym o.reply) ∙ sym test ∙ f

            under_it : under ≡ true
            under_it = pass_kept other accepts ∙ is_key-some key ((state_shown n).key name)
                (keyed_by (state_shown n) other o.outcome (one_here c es name key e.node s.1 one_then) o.is ran_it)

            spent : HasRow (e ∷ es) s one (yet (e ∷ es)) parcels (after_spend e.node row)
            spent =
                let here = rights_still c few name key term count counted e es s one (asks.Pass other) accepts stay in
                let moved_none : sum_below c.nodes (λ j. 0) ≡ 0 = sum-zero c.nodes (λ j. 0) (λ j. refl) in
                let ones = acts_one in
                let change : rights_now e.node + 1 ≡ rights_then e.node = omega (arith, here, moved_none, ones) in
                let held = held_then row parcels low under_it has in
                let grown = granted_more c few name key term count counted e es s one (asks.Pass other) accepts low in
                let more = spent_more c few name key term count counted e es s one (asks.Pass other) accepts low in
                row_same c.nodes key.node (yet (e ∷ es)) _ _ _ _ rights_now (λ j. amounts_to j parcels) rights_now
                (λ j. amounts_to j parcels) (after_spend e.node row)
                (spend_is c.nodes key.node (yet (e ∷ es)) _ _ e.node rights_then (λ j. amounts_to j parcels) rights_now row
                low (omega (arith, held, change))
                (λ j l. by_node c few name key term count counted e es s one 1 rights_now rights_then (rights_else c few name key term count counted e es s one (asks.Pass other) accepts) change j) has)
                (omega (arith, grown)) (omega (arith, more, ones)) (λ j l. refl) (λ j l. refl)

    -- ---- a grant

    granted_both : (other : List ℕ) (t amount : ℕ) → accepted c (world c es) e e.node ≡ Some (asks.Grant other t amount) →
        e.node < c.nodes → count + all_granted c (e ∷ es) name key term ≤ most →
        (row : RowTold) (parcels : List Parcel) → HasRow es s.1 one_then (yet (e ∷ es)) parcels row →
        HasParcels c name key term es parcels →
        HasBoth (cond (under && is_of_budget b other t) (after_grant e.node amount row) row) parcels
    granted_both other t amount accepts low fits row parcels has parts = at (under && is_of_budget b other t) refl
      where
        stay : Stays c few name key term count counted e es s one
        stay = seen_same c name key term e es s (asks.Grant other t amount) accepts refl

        kept : under ≡ is_key key ((state_shown n).key name)
        kept = key_kept (asks.Grant other t amount) accepts (λ op h. h) (grant_ops n other t amount)

        test : (under && is_of_budget b other t) ≡ (bytes_eq other name && (t == term && is_key key ((state_shown n).key other)))
        test = test_is other t kept

        own : (j number : ℕ) → e.node ≢ j → IsIn (Count (Shifts name key term e.node j) number)
            (ops_issued e.node n (Some (asks.Grant other t amount)) e.words) → ⊥
        own j number ne h = ne (sym (shift_issued e.node (state_shown n) other t e.node amount ((state_shown n).key other)
            refl name key term j number h).tos)

        parts_now : HasParcels c name key term (e ∷ es) parcels
        parts_now = same_parcels c name key term e es s (asks.Grant other t amount) accepts parcels parts stay (λ j. refl) own

        at : (u : Bool) → (under && is_of_budget b other t) ≡ u → HasBoth (cond u (after_grant e.node amount row) row) parcels
        at false f = quiet_both (asks.Grant other t amount) accepts low (record {
          stays = stay;
          moves = λ j. refl;
          grants = ap (λ t. cond t amount 0) (sym test ∙ f);
          spends = refl;
          own = own;
        }) row parcels has parts
        at true f = record { rights = more; parcels_are = parts_now }
          where
            grants_it : amount_granted n (Some (asks.Grant other t amount)) name key term ≡ amount
            grants_it = ap (λ t. cond t amount 0) (sym test ∙ f)

            more : HasRow (e ∷ es) s one (yet (e ∷ es)) parcels (after_grant e.node amount row)
            more =
                let here = rights_still c few name key term count counted e es s one (asks.Grant other t amount) accepts stay in
                let moved_none : sum_below c.nodes (λ j. 0) ≡ 0 = sum-zero c.nodes (λ j. 0) (λ j. refl) in
                let gr = grants_it in
                let change : rights_then e.node + amount ≡ rights_now e.node = omega (arith, here, moved_none, gr) in
                let grown = granted_more c few name key term count counted e es s one (asks.Grant other t amount) accepts low in
                let spent = spent_more c few name key term count counted e es s one (asks.Grant other t amount) accepts low in
                row_same c.nodes key.node (yet (e ∷ es)) _ _ _ _ (λ j. rights_then j + cond (j == e.node) amount 0)
                (λ j. amounts_to j parcels) rights_now (λ j. amounts_to j parcels) (after_grant e.node amount row)
                (grant_is c.nodes key.node (yet (e ∷ es)) _ _ e.node amount rights_then (λ j. amounts_to j parcels) row
                low (omega (arith, fits, grown, gr)) has)
                (omega (arith, grown, gr)) (omega (arith, spent))
                (λ j l. by_node c few name key term count counted e es s one amount rights_then rights_now
                (λ k ne. sym (rights_else c few name key term count counted e es s one (asks.Grant other t amount) accepts k ne)) change j)
                (λ j l. refl)

    -- ---- a shift

    shifted_both : (other : List ℕ) (t to amount : ℕ) (r : ReplyTold) →
        accepted c (world c es) e e.node ≡ Some (asks.Shift other t to amount) →
        answered_from c.nodes r ≡ reply e.node n (asks.Shift other t to amount) e.words → e.node < c.nodes →
        (row : RowTold) (parcels : List Parcel) → HasRow es s.1 one_then (yet (e ∷ es)) parcels row →
        HasParcels c name key term es parcels →
        HasBoth (cond (under && is_of_budget b other t) (after_send e.node to amount row) row)
        (cond (under && is_of_budget b other t)
        (parcels ++ sent_parcel e.node to (min amount (slice_index row.held e.node)) r) parcels)
    shifted_both other t to amount r accepts rep low row parcels has parts = at (under && is_of_budget b other t) refl
      where
        v : State
        v = state_shown n

        stay : Stays c few name key term count counted e es s one
        stay = seen_same c name key term e es s (asks.Shift other t to amount) accepts refl

        kept : under ≡ is_key key (v.key name)
        kept = key_kept (asks.Shift other t to amount) accepts (λ op h. h) (shift_ops n other t to amount)

        test : (under && is_of_budget b other t) ≡ (bytes_eq other name && (t == term && is_key key (v.key other)))
        test = test_is other t kept

        agreed : refusal_at (config_of c e.node) (length ((world c es).trace e.node)) n (asks.Shift other t to amount) e.words ≡ None
        agreed = (asked_is c (world c es) e e.node (asks.Shift other t to amount) accepts).agreed

        moves_to : (j : ℕ) → amount_moved n (Some (asks.Shift other t to amount)) name key term j
            ≡ cond (under && is_of_budget b other t) (cond (to == j) amount 0) 0
        moves_to j = moved_if (bytes_eq other name) (t == term) (to == j) (is_key key (v.key other)) amount
            ∙ ap (λ u. cond u (cond (to == j) amount 0) 0) (sym test)

        issued : (j number : ℕ) → IsIn (Count (Shifts name key term e.node j) number)
            (ops_issued e.node n (Some (asks.Shift other t to amount)) e.words) →
            IsShift v other name key t term e.node to j amount number
        issued j number h = shift_issued e.node v other t to amount (v.key other) refl name key term j number h

        own : (under && is_of_budget b other t) ≡ false → (j number : ℕ) → e.node ≢ j →
            IsIn (Count (Shifts name key term e.node j) number)
            (ops_issued e.node n (Some (asks.Shift other t to amount)) e.words) → ⊥
        own f j number ne h =
            let is = issued j number h in
            let both : (bytes_eq other name && (t == term && is_key key (v.key other))) ≡ true =
            and_from (bytes_eq other name) _ (ap (bytes_eq other) is.names ∙ bytes_eq-refl other)
            (and_from (t == term) _ (eq-eqb t term (sym is.terms)) (is_key-some key (v.key other) is.under)) in
            true≢false (sym both ∙ sym test ∙ f)

        at : (u : Bool) → (under && is_of_budget b other t) ≡ u →
            HasBoth (cond u (after_send e.node to amount row) row)
            (cond u (parcels ++ sent_parcel e.node to (min amount (slice_index row.held e.node)) r) parcels)
        at false f = quiet_both (asks.Shift other t to amount) accepts low (record {
          stays = stay;
          moves = λ j. moves_to j ∙ ap (λ u. cond u (cond (to == j) amount 0) 0) f;
          grants = refl;
          spends = refl;
          own = own f;
        }) row parcels has parts
        at true f = subst (λ ps. HasBoth (after_send e.node to amount row) ps) (sym sent_is) (record {
          rights = sent_row;
          parcels_are = one_sent c name key term e es s (asks.Shift other t to amount) accepts parcels to amount parts refl
              low is.other some (λ j. moves_to j ∙ ap (λ u. cond u (cond (to == j) amount 0) 0) f) totals;
        })
          where
            is : IsShifted (config_of c e.node) v other t to amount
            is = shifted_is (config_of c e.node) (length ((world c es).trace e.node)) n other t to amount e.words agreed

            some : 1 ≤ amount
            some =
                let all = none_applies (faults_of (config_of c e.node) (length ((world c es).trace e.node)) n
                (asks.Shift other t to amount) e.words) agreed in
                let places = (none_applies (faults_of_shift (config_of c e.node) v other t to amount) all.1.1.0).1.1.1 in
                let apart : amount ≢ 0 = eqb-false amount 0 (not_true _ _ places.1.0) in
                omega (arith, apart)

            u_is : under ≡ true
            u_is = (and_parts under (is_of_budget b other t) f).0

            names : other ≡ name
            names = bytes_eq-true other name (and_parts (bytes_eq other name) (t == term)
                (and_parts under (is_of_budget b other t) f).1).0

            terms : t ≡ term
            terms = eqb-true t term (and_parts (bytes_eq other name) (t == term)
                (and_parts under (is_of_budget b other t) f).1).1

            keyed : v.key name ≡ Some key
            keyed = is_key-of key (v.key name) (sym kept ∙ u_is)

            number : v.shifts other t e.node to ≡ moved c es name key term e.node to
            number = (λ r. v.shifts (names r) (terms r) e.node to)
                ∙ own_number c name key term n.ops e.node to keyed
                ∙ own_shifts c es s.1 name key term e.node to is.other

            totals : (j k : ℕ) → IsIn (Count (Shifts name key term e.node j) k)
                (ops_issued e.node n (Some (asks.Shift other t to amount)) e.words) →
                (j ≡ to) × (k ≡ moved c es name key term e.node to + amount)
            totals j k h = let sh = issued j k h in (sh.tos, sh.numbers ∙ ap (λ m. m + amount) number)

            sent : sum_below c.nodes (λ j. amount_moved n (Some (asks.Shift other t to amount)) name key term j) ≡ amount
            sent = sum-same c.nodes _ (λ j. cond (to == j) amount 0)
                (λ j l. moves_to j ∙ ap (λ u. cond u (cond (to == j) amount 0) 0) f) ∙ sum_there c.nodes to amount is.below

            change : rights_now e.node + amount ≡ rights_then e.node
            change =
                let here = rights_still c few name key term count counted e es s one (asks.Shift other t to amount) accepts stay in
                let all = sent in
                omega (arith, here, all)

            held : slice_index row.held e.node ≡ rights_then e.node
            held = held_then row parcels low u_is has

            enough : amount ≤ slice_index row.held e.node
            enough = let a = change in let d = held in omega (arith, a, d)

            p : Parcel
            p = record { from = e.node; to = to; total = moved c es name key term e.node to + amount; amount = amount }

            sent_by : (r : ReplyTold) → answered_from c.nodes r ≡ asks.IsShifted (v.shifts other t e.node to + amount) →
                sent_parcel e.node to (min amount (slice_index row.held e.node)) r ≡ p ∷ []
            sent_by (tells.was_shifted total) g =
                let totals_are : total ≡ v.shifts other t e.node to + amount = cc in
                let few_ = enough in
                let all : min amount (slice_index row.held e.node) ≡ amount = omega (arith, few_) in
                λ r. record { from = e.node; to = to; total = (totals_are ∙ ap (λ m. m + amount) number) r; amount = all r } ∷ []
            sent_by (tells.was_set stamp) g = absurd (cc)
            sent_by (tells.was_removed stamp) g = absurd (cc)
            sent_by (tells.was_loaded entries) g = absurd (cc)
            sent_by (tells.was_passed passed) g = absurd (cc)
            sent_by (tells.was_granted total) g = absurd (cc)
            sent_by (tells.was_emitted bytes) g = absurd (cc)
            sent_by (tells.was_delivered changed) g = absurd (cc)

            sent_is : parcels ++ sent_parcel e.node to (min amount (slice_index row.held e.node)) r ≡ parcels ++ p ∷ []
            sent_is = ap (λ ps. parcels ++ ps) (sent_by r rep)

            sent_row : HasRow (e ∷ es) s one (yet (e ∷ es)) (parcels ++ p ∷ []) (after_send e.node to amount row)
            sent_row =
                let grown = granted_more c few name key term count counted e es s one (asks.Shift other t to amount) accepts low in
                let spent = spent_more c few name key term count counted e es s one (asks.Shift other t to amount) accepts low in
                row_same c.nodes key.node (yet (e ∷ es)) _ _ _ _ rights_now
                (λ j. amounts_to j parcels + cond (j == to) amount 0) rights_now (λ j. amounts_to j (parcels ++ p ∷ []))
                (after_send e.node to amount row)
                (send_is c.nodes key.node (yet (e ∷ es)) _ _ e.node to amount rights_then (λ j. amounts_to j parcels)
                rights_now row low is.below enough
                (λ j l. by_node c few name key term count counted e es s one amount rights_now rights_then (rights_else c few name key term count counted e es s one (asks.Shift other t to amount) accepts) change j) has)
                (omega (arith, grown)) (omega (arith, spent)) (λ j l. refl)
                (λ j l.
                let all = amounts_to_append j parcels (p ∷ []) in
                let same : ◌≡◌ {A = ℕ} (cond (to == j) amount 0) (cond (j == to) amount 0) =
                ap (λ t. cond t amount 0) (turned to j) in
                omega (arith, all, same))

    -- ---- a message

    delivered_both : (bytes : List ℕ) → accepted c (world c es) e e.node ≡ Some (asks.Deliver (message_read c.nodes bytes)) →
        e.node < c.nodes → (row : RowTold) (parcels : List Parcel) → HasRow es s.1 one_then (yet (e ∷ es)) parcels row →
        HasParcels c name key term es parcels →
        HasBoth (cond under (after_message b c.nodes e.node bytes parcels row) row)
        (cond under (left_by_message b c.nodes e.node bytes parcels) parcels)
    unfolding after_message left_by_message is_brought
    delivered_both bytes accepts low row parcels has parts = at under refl
      where
        q : Asked
        q = asks.Deliver (message_read c.nodes bytes)

        entries : List EntryValue
        entries = entries_in c.nodes bytes

        ops : List Operation
        ops = (message_in (message_read c.nodes bytes)).ops

        was_sent : IsIn (message_in (message_read c.nodes bytes)) (world c es).messages
        was_sent = delivered_was_sent c (world c es) e e.node (message_read c.nodes bytes) s.0 accepts

        of_key : AreOfKey name key (entries_in c.nodes bytes)
        of_key entry h clocks nodes =
            let there : IsIn (Set entry.name entry.key) ((message_in (message_read c.nodes bytes)).ops) =
            subst (IsIn (Set entry.name entry.key)) (sym (message_ops c.nodes bytes))
            (flat_in operations_of (entries_in c.nodes bytes) entry (Set entry.name entry.key) h (inl refl)) in
            one_then entry.name entry.key ((carried c es s.1).sent (message_in (message_read c.nodes bytes)) was_sent
            (Set entry.name entry.key) there entry.name entry.key (own_name entry.name entry.key)) clocks nodes

        brought : Parcel → Bool
        brought p = is_brought b e.node (entries_in c.nodes bytes) p

        here_is : (p : Parcel) → is_brought b e.node (entries_in c.nodes bytes) p ≡ true → (p.to == e.node) ≡ true
        here_is p h = (and_parts (p.to == e.node) _ h).0

        quiet : under ≡ false → IsQuiet (asks.Deliver (message_read c.nodes bytes))
        quiet u = record {
          stays = seen_not_under c name key term e es s (asks.Deliver (message_read c.nodes bytes)) accepts u;
          moves = λ j. refl;
          grants = refl;
          spends = refl;
          own = λ j number ne h. h;
        }

        at : (u : Bool) → under ≡ u → HasBoth
            (cond u (fold (λ r p. after_arrival e.node r p.amount) row (filter (is_brought b e.node (entries_in c.nodes bytes)) parcels)) row)
            (cond u (filter (λ p. not (is_brought b e.node (entries_in c.nodes bytes) p)) parcels) parcels)
        at false u = quiet_both (asks.Deliver (message_read c.nodes bytes)) accepts low (quiet u) row parcels has parts
        at true u = record { rights = arrived; parcels_are = parts_now }
          where
            left : List Parcel
            left = filter (λ p. not (is_brought b e.node (entries_in c.nodes bytes) p)) parcels

            came : List Parcel
            came = filter (is_brought b e.node (entries_in c.nodes bytes)) parcels

            parts_now : HasParcels c name key term (e ∷ es) (filter (λ p. not (is_brought b e.node (entries_in c.nodes bytes) p)) parcels)
            parts_now = some_arrive c name key term e es s (asks.Deliver (message_read c.nodes bytes)) accepts parcels
                ((message_in (message_read c.nodes bytes)).ops) (is_brought b e.node (entries_in c.nodes bytes)) parts u refl
                (λ op h. (known c es s.1).sent (message_in (message_read c.nodes bytes)) was_sent op h) (λ j. refl)
                (λ j number h. h) here_is
                (λ p sound to_is. brought_is name key term count p (entries_in c.nodes bytes) of_key e.node to_is sound.apart sound.some
                ∙ ap (λ os. nat_le p.total (number_at (Shifts name key term p.from p.to) os)) (sym (message_ops c.nodes bytes)))

            parted : amounts_to e.node parcels ≡ amounts came + amounts_to e.node left
            parted = amounts_parted (is_brought b e.node (entries_in c.nodes bytes)) e.node parcels here_is

            other : (j : ℕ) → j ≢ e.node → amounts_to j left ≡ amounts_to j parcels
            other j ne = amounts_other (is_brought b e.node (entries_in c.nodes bytes)) j parcels
                (λ p h. not_at (p.to == j) refl (eqb-true p.to e.node (here_is p h)))
              where
                not_at : {m : ℕ} (t : Bool) → (m == j) ≡ t → m ≡ e.node → (m == j) ≡ false
                not_at {m} true f g = absurd (ne (sym (eqb-true m j f) ∙ g))
                not_at {m} false f g = f

            moved_all : sum_below c.nodes (λ j. moved c (e ∷ es) name key term j e.node) ≡ sum_below c.nodes
                (λ j. moved c es name key term j e.node)
            moved_all = sum-same c.nodes _ _ (λ j l. ⊎_elim
                (λ same. same_row (moved c (e ∷ es) name key term) (moved c es name key term) j e.node e.node same
                (let now = moved_here c name key term e es s (asks.Deliver (message_read c.nodes bytes)) accepts e.node in
                omega (arith, now)))
                (λ ne. moved_else c name key term e es s (asks.Deliver (message_read c.nodes bytes)) accepts j e.node ne)
                (cases_eq j e.node))

            change : rights_then e.node + amounts came ≡ rights_now e.node
            change =
                let here = rights_here c few name key term count counted e es s one (asks.Deliver (message_read c.nodes bytes)) accepts in
                let none : sum_below c.nodes (λ j. 0) ≡ 0 = sum-zero c.nodes (λ j. 0) (λ j. refl) in
                let before = way_seen c name key term es parcels parts e.node in
                let now = way_seen c name key term (e ∷ es) left parts_now e.node in
                let same = moved_all in
                let split = parted in
                omega (arith, here, none, before, now, same, split)

            arrived : HasRow (e ∷ es) s one (yet (e ∷ es)) left (fold (λ r p. after_arrival e.node r p.amount) row came)
            arrived =
                let grown = granted_more c few name key term count counted e es s one (asks.Deliver (message_read c.nodes bytes)) accepts low in
                let spent = spent_more c few name key term count counted e es s one (asks.Deliver (message_read c.nodes bytes)) accepts low in
                let split = parted in
                row_same c.nodes key.node (yet (e ∷ es)) _ _ _ _ (λ j. rights_then j + cond (j == e.node) (amounts came) 0)
                (λ j. amounts_to j left) rights_now (λ j. amounts_to j left)
                (fold (λ r p. after_arrival e.node r p.amount) row came)
                (arrivals c.nodes key.node (yet (e ∷ es)) _ _ e.node rights_then (λ j. amounts_to j parcels)
                (λ j. amounts_to j left) came row low
                (λ j l. by_node c few name key term count counted e es s one (amounts came) (λ k. amounts_to k left) (λ k. amounts_to k parcels) other
                (omega (arith, split)) j) has)
                (omega (arith, grown)) (omega (arith, spent))
                (λ j l. by_node c few name key term count counted e es s one (amounts came) rights_then rights_now
                (λ k ne. sym (rights_else c few name key term count counted e es s one (asks.Deliver (message_read c.nodes bytes)) accepts k ne)) change j)
                (λ j l. refl)

    -- ---- any call

    sets_quiet : (q : Asked) → accepted c (world c es) e e.node ≡ Some q → ops_delivered (Some q) ≡ [] →
        ((j : ℕ) → amount_moved n (Some q) name key term j ≡ 0) → amount_granted n (Some q) name key term ≡ 0 →
        acted (stamp_of key) term e.node n (Some q) e.words ≡ 0 →
        ((op : Operation) → IsIn op (ops_issued e.node n (Some q) e.words) → (from to number : ℕ) →
        op ≡ Count (Shifts name key term from to) number → ⊥) → IsQuiet q
    sets_quiet q accepts none moves grants spends own = record {
      stays = seen_same c name key term e es s q accepts none;
      moves = moves;
      grants = grants;
      spends = spends;
      own = λ j number ne h. own (Count (Shifts name key term e.node j) number) h e.node j number refl;
    }

    acts_both : (ask : AskTold) (r : ReplyTold) → accepted c (world c es) e e.node ≡ Some (asked_from c.nodes ask r) →
        answered_from c.nodes r ≡ reply e.node n (asked_from c.nodes ask r) e.words → e.node < c.nodes →
        count + all_granted c (e ∷ es) name key term ≤ most →
        (row : RowTold) (parcels : List Parcel) → HasRow es s.1 one_then (yet (e ∷ es)) parcels row →
        HasParcels c name key term es parcels →
        HasBoth (row_after b c.nodes e.node under parcels ask r row)
        (parcels_after b c.nodes e.node under (slice_index row.held e.node) ask r parcels)
    acts_both (tells.sets other text) r accepts rep low fits row parcels has parts =
        quiet_both (asks.Set other text) accepts low
        (sets_quiet (asks.Set other text) accepts refl (λ j. refl) refl refl
        (λ op h from to number is. no_count e.node n.marks.clock (settings (asks.Set other text)) op h name key term from to number is))
        row parcels has parts
    acts_both (tells.removes other) r accepts rep low fits row parcels has parts =
        quiet_both (asks.Remove other) accepts low
        (sets_quiet (asks.Remove other) accepts refl (λ j. refl) refl refl
        (λ op h from to number is. no_count e.node n.marks.clock (settings (asks.Remove other)) op h name key term from to number is))
        row parcels has parts
    acts_both (tells.loads text) r accepts rep low fits row parcels has parts =
        quiet_both (asks.Load text) accepts low
        (sets_quiet (asks.Load text) accepts refl (λ j. refl) refl refl
        (λ op h from to number is. no_count e.node n.marks.clock (settings (asks.Load text)) op h name key term from to number is))
        row parcels has parts
    acts_both (tells.passes other) r accepts rep low fits row parcels has parts =
        passed_both other r accepts rep low row parcels has parts
    acts_both (tells.shifts other t to amount) r accepts rep low fits row parcels has parts =
        shifted_both other t to amount r accepts rep low row parcels has parts
    acts_both (tells.grants other t amount) r accepts rep low fits row parcels has parts =
        granted_both other t amount accepts low fits row parcels has parts
    acts_both (tells.emits to) r accepts rep low fits row parcels has parts =
        let em = emit_by c.nodes to r in
        let asked : accepted c (world c es) e e.node ≡ Some (asks.Emit em.to em.versions em.chosen) = accepts ∙ ap Some em.is in
        quiet_both (asks.Emit em.to em.versions em.chosen) asked low
        (sets_quiet (asks.Emit em.to em.versions em.chosen) asked refl (λ j. refl) refl refl
        (λ op h from to number is. h)) row parcels has parts
    acts_both (tells.delivers bytes) r accepts rep low fits row parcels has parts =
        delivered_both bytes accepts low row parcels has parts

    pub fits_then : count + all_granted c (e ∷ es) name key term ≤ most → count + all_granted c es name key term ≤ most
    fits_then fits =
        let less = sum-le c.nodes (granted c es name key term) (granted c (e ∷ es) name key term) (λ j. omega arith) in
        omega (arith, fits, less)

    -- behind a call the story tells of the world behind it
    pub call_tells : (t : Told) → IsAnswered es e t → HasRoom n t.ask → clock_of n.ops ≤ n.marks.clock →
        count + all_granted c (e ∷ es) name key term ≤ most → (st : StoryTold) → Tells es s.1 one_then st →
        Tells (e ∷ es) s one (after_call b c.nodes e.node t st)
    unfolding after_call
    call_tells t is room clocks fits st tells = subst (Tells (e ∷ es) s one) (sym path) (record {
      long = length-set st.known e.node k_now ∙ tells.long;
      knows = λ j low. knows_at j low;
      rights = both.rights;
      parcels = both.parcels_are;
    })
      where
        k : Known
        k = known_of name n

        k_now : Known
        k_now = known_of name ((world c (e ∷ es)).node e.node)

        row : RowTold
        row = after_making b e.node k k_now st.row

        both : HasBoth (row_after b c.nodes e.node under st.parcels t.ask t.reply row)
            (parcels_after b c.nodes e.node under (slice_index row.held e.node) t.ask t.reply st.parcels)
        both = acts_both t.ask t.reply is.ask is.reply is.low fits row st.parcels
            (making_at st.row st.parcels is.low (fits_then fits) tells.rights) tells.parcels

        known_is : known_after c.nodes name e.node t.ask t.reply k ≡ k_now
        known_is = knows_after name c.nodes e.node n t.ask t.reply e.words clocks room is.reply
            ∙ ap (λ a. known_of name (node_after e.node n a e.words)) (sym is.ask)

        under_now : knowing.is_under b k_now ≡ under
        under_now = under_is name key (state_of c (e ∷ es) e.node) (one_here c (e ∷ es) name key e.node s one)

        path : story_from b c.nodes e.node t st (slice_get st.known e.node) ≡
            after_acting b c.nodes e.node under t (after_knowing b e.node k k_now st)
        path = ap (story_from b c.nodes e.node t st) (tells.knows e.node is.low)
            ∙ ap (story_by b c.nodes e.node t st k) known_is
            ∙ ap (λ u. after_acting b c.nodes e.node u t (after_knowing b e.node k k_now st)) under_now

        knows_at : (j : ℕ) → j < c.nodes → slice_get (slice_set st.known e.node k_now) j ≡ Some
            (known_of name ((world c (e ∷ es)).node j))
        knows_at j low = cases_to (slice_get (slice_set st.known e.node k_now) j ≡ Some
            (known_of name ((world c (e ∷ es)).node j)))
            (λ same. subst (λ m. slice_get (slice_set st.known e.node k_now) m ≡ Some
            (known_of name ((world c (e ∷ es)).node m))) (sym same)
            (get_set_same st.known e.node k_now (let long = tells.long in let below = is.low in omega (arith, long, below))))
            (λ ne. get_set_other st.known e.node j k_now (λ f. ne (sym f)) ∙ tells.knows j low
            ∙ ap (λ a. Some (known_of name (node_after j ((world c es).node j) a e.words)))
            (sym (not_asked c (world c es) e j ne)))
            (cases_eq j e.node)
