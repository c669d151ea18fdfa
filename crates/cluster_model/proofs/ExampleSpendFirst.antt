-- A spend that is known before the shift that paid for it: its node has less than no rights for a while.
use Rattle.std.proofs.Common.{◌≡◌, ℕ, ◌≤◌, true, false, List, [], ◌∷◌, ◌++◌, Some, Ok, inl, inr, refl, ◌∙◌, ap, subst, arith, ⊎_elim}
use Rattle.std.proofs.lemmas.Bool.{cases_eq}
use Rattle.std.specs.Prelude.{pos, ◌-ℤ◌, reverse, codes}
use Rattle.std.specs.Fmt.{digits}
use Rattle.actions.specs.Value.{off}
use Rattle.actions.specs.Choice.{choice}
use Rattle.actions.specs.Numbers.{number_at, short_number_at, decimals_at, percent_at}
use Rattle.actions.specs.Reading.{pieces, trimmed_text, argument_at, chance_at, count_at, time_at, task_at, term_at, terms_at, reading}
use Rattle.counters.specs.Sums.{node_numbers}
use Rattle.stamp_register.specs.Keys.{KeyValue, terms_in_text}
use Rattle.operations.specs.Operations.{Hits, Execs, Shifts, Operation, Set, Count, IsIn, same_cell}
use Rattle.replica_state.specs.States.{State, rights_of, spent_of}
use Rattle.replica_state.specs.Folds.{fold}
use Rattle.replica_state.specs.Knowledge.{changes}
use Rattle.replica_state.specs.Deltas.{IsTold}
use Rattle.replica_state.proofs.Changes.{changes_is_change}
use Rattle.node_calls.specs.Asks.{Message}
use Rattle.node_calls.specs.Told.{Act}
use Rattle.node_calls.specs.Asks as asks
use Rattle.node_core.specs.Steps.{after}
use Rattle.node_steps.proofs.UptoStates.{upto_below}
use Rattle.cluster_model.specs.Worlds.{Event, world}
use Rattle.cluster_model.specs.Schedules.{IsSchedule}
use Rattle.cluster_model.specs.Histories.{state_of}
use Rattle.cluster_model.specs.Views.{IsAsOf, SeesWhole}
use Rattle.cluster_model.proofs.Examples.{nodes, event, stamp, key_at, first_told, message, answers, may_tell, may_send_one}

abbrev a : List ℕ
a = codes "a"

abbrev key : KeyValue
key = key_at 1 0 (codes "2*off")

abbrev spend : List Operation
spend = Count (Execs a key 0 1) 1 ∷ Set a key ∷ []

abbrev both : List Operation
both = Count (Shifts a key 0 0 1) 1 ∷ spend

setter_before : rights_of (fold spend) a 0 0 ≡ pos 2
unfolding digits node_numbers after fold same_cell terms_in_text choice number_at short_number_at decimals_at percent_at
    pieces trimmed_text argument_at chance_at count_at time_at task_at term_at terms_at reading
setter_before = refl

spender_before : rights_of (fold spend) a 0 1 ≡ pos 0 -ℤ pos 1
unfolding digits node_numbers after fold same_cell terms_in_text choice number_at short_number_at decimals_at percent_at
    pieces trimmed_text argument_at chance_at count_at time_at task_at term_at terms_at reading
spender_before = refl

spent_before : spent_of (fold spend) a 0 ≡ 1
unfolding digits node_numbers after fold same_cell terms_in_text choice number_at short_number_at decimals_at percent_at
    pieces trimmed_text argument_at chance_at count_at time_at task_at term_at terms_at reading
spent_before = refl

setter_then : rights_of (fold both) a 0 0 ≡ pos 1
unfolding digits node_numbers after fold same_cell terms_in_text choice number_at short_number_at decimals_at percent_at
    pieces trimmed_text argument_at chance_at count_at time_at task_at term_at terms_at reading
setter_then = refl

spender_then : rights_of (fold both) a 0 1 ≡ pos 0
unfolding digits node_numbers after fold same_cell terms_in_text choice number_at short_number_at decimals_at percent_at
    pieces trimmed_text argument_at chance_at count_at time_at task_at term_at terms_at reading
spender_then = refl

spent_then : spent_of (fold both) a 0 ≡ 1
unfolding digits node_numbers after fold same_cell terms_in_text choice number_at short_number_at decimals_at percent_at
    pieces trimmed_text argument_at chance_at count_at time_at task_at term_at terms_at reading
spent_then = refl

-- either again, or an earlier copy, changes nothing
nothing_new : changes (fold both) both ≡ false
unfolding digits node_numbers after fold same_cell terms_in_text choice number_at short_number_at decimals_at percent_at
    pieces trimmed_text argument_at chance_at count_at time_at task_at term_at terms_at reading
nothing_new = refl

earlier_copy : changes (fold both) spend ≡ false
unfolding digits node_numbers after fold same_cell terms_in_text choice number_at short_number_at decimals_at percent_at
    pieces trimmed_text argument_at chance_at count_at time_at task_at term_at terms_at reading
earlier_copy = refl

same_state : fold (both ++ both) ≡ fold both
same_state = (changes_is_change both both).0 nothing_new

same_as_earlier : fold (spend ++ both) ≡ fold both
same_as_earlier = (changes_is_change spend both).0 earlier_copy

-- the same over a schedule of three nodes, in which the spend comes to node 2 first
abbrev moves : List Operation
moves = Count (Shifts a key 0 0 1) 1 ∷ Set a key ∷ []

abbrev script : List Event
script =
    event 0 (asks.Set a (codes "2*off")) ∷
    event 0 (asks.Shift a 0 1 1) ∷
    event 0 (asks.Emit 1 (first_told 2) moves) ∷
    event 1 (asks.Deliver (Ok (message 0 1 2 moves))) ∷
    event 1 (asks.Pass a) ∷
    event 1 (asks.Emit 2 (first_told 2) spend) ∷
    event 2 (asks.Deliver (Ok (message 1 2 2 spend))) ∷ []

abbrev later : List Event
later =
    script ++
    event 0 (asks.Emit 2 (first_told 2) moves) ∷
    event 2 (asks.Deliver (Ok (message 0 2 2 moves))) ∷ []

answered : answers (nodes 3) later ≡
    Some (asks.IsSet (stamp 1 0)) ∷
    Some (asks.IsShifted 1) ∷
    Some (asks.IsEmitted (Ok (message 0 1 2 moves))) ∷
    Some (asks.IsDelivered true) ∷
    Some (asks.IsPassed (Act (stamp 1 0) 0 off)) ∷
    Some (asks.IsEmitted (Ok (message 1 2 2 spend))) ∷
    Some (asks.IsDelivered true) ∷
    Some (asks.IsEmitted (Ok (message 0 2 2 moves))) ∷
    Some (asks.IsDelivered true) ∷ []
unfolding digits node_numbers after fold same_cell terms_in_text choice number_at short_number_at decimals_at percent_at
    pieces trimmed_text argument_at chance_at count_at time_at task_at term_at terms_at reading
answered = refl

is_schedule : IsSchedule (nodes 3) (reverse later)
unfolding digits node_numbers after fold same_cell terms_in_text choice number_at short_number_at decimals_at percent_at
    pieces trimmed_text argument_at chance_at count_at time_at task_at term_at terms_at reading
is_schedule = (
  inr (inr (inl refl)),
  (
    (may_tell _ 2 2 refl, may_send_one a key moves moves (λ op h. h) refl refl (inr (inl refl))),
    (
      inr (inl refl),
      (
        (
          may_tell _ 2 2 refl,
          may_send_one a key (Count (Execs a key 0 1) 1 ∷ Count (Hits a 1) 1 ∷ moves) spend
              held_by_1 refl refl (inr (inl refl)),
        ),
        (
          tt,
          (
            inl refl,
            (
              (may_tell _ 1 2 refl, may_send_one a key moves moves (λ op h. h) refl refl (inr (inl refl))),
              (tt, (tt, tt)),
            ),
          ),
        ),
      ),
    ),
  ),
)
  where
    held_by_1 : (op : Operation) → IsIn op spend → IsIn op (Count (Execs a key 0 1) 1 ∷ Count (Hits a 1) 1 ∷ moves)
    held_by_1 op (inl e) = inl e
    held_by_1 op (inr (inl e)) = inr (inr (inr (inl e)))
    held_by_1 op (inr (inr h)) = absurd h

seen_first : rights_of (state_of (nodes 3) (reverse script) 2) a 0 1 ≡ pos 0 -ℤ pos 1
unfolding digits node_numbers after fold same_cell terms_in_text choice number_at short_number_at decimals_at percent_at
    pieces trimmed_text argument_at chance_at count_at time_at task_at term_at terms_at reading
seen_first = refl

seen_at_last : rights_of (state_of (nodes 3) (reverse later) 2) a 0 1 ≡ pos 0
unfolding digits node_numbers after fold same_cell terms_in_text choice number_at short_number_at decimals_at percent_at
    pieces trimmed_text argument_at chance_at count_at time_at task_at term_at terms_at reading
seen_at_last = refl

-- ---- node 2 then sees node 1 at none of its versions: the spend is told without the shift that paid for it

abbrev seen : State
seen = state_of (nodes 3) (reverse script) 2

abbrev held_at : ℕ → State
held_at = ((world (nodes 3) (reverse script)).node 1).past

reached_upto : ((world (nodes 3) (reverse script)).node 1).marks.version ≡ 2
unfolding digits node_numbers after fold same_cell terms_in_text choice number_at short_number_at decimals_at percent_at
    pieces trimmed_text argument_at chance_at count_at time_at task_at term_at terms_at reading
reached_upto = refl

told_spend : IsTold seen (Count (Execs a key 0 1) 1)
unfolding digits node_numbers after fold same_cell terms_in_text choice number_at short_number_at decimals_at percent_at
    pieces trimmed_text argument_at chance_at count_at time_at task_at term_at terms_at reading
told_spend = ((refl, refl), λ e. omega (arith, e))

-- at its first versions node 1 hadn't spent, and at the last one it had the shift
not_spent_at_0 : (held_at 0).execs a 0 1 ≡ 0
unfolding digits node_numbers after fold same_cell terms_in_text choice number_at short_number_at decimals_at percent_at
    pieces trimmed_text argument_at chance_at count_at time_at task_at term_at terms_at reading
not_spent_at_0 = refl

not_spent_at_1 : (held_at 1).execs a 0 1 ≡ 0
unfolding digits node_numbers after fold same_cell terms_in_text choice number_at short_number_at decimals_at percent_at
    pieces trimmed_text argument_at chance_at count_at time_at task_at term_at terms_at reading
not_spent_at_1 = refl

same_key_at_2 : (held_at 2).key a ≡ seen.key a
unfolding digits node_numbers after fold same_cell terms_in_text choice number_at short_number_at decimals_at percent_at
    pieces trimmed_text argument_at chance_at count_at time_at task_at term_at terms_at reading
same_key_at_2 = refl

moved_at_2 : (held_at 2).shifts a 0 0 1 ≡ 1
unfolding digits node_numbers after fold same_cell terms_in_text choice number_at short_number_at decimals_at percent_at
    pieces trimmed_text argument_at chance_at count_at time_at task_at term_at terms_at reading
moved_at_2 = refl

not_moved : seen.shifts a 0 0 1 ≡ 0
unfolding digits node_numbers after fold same_cell terms_in_text choice number_at short_number_at decimals_at percent_at
    pieces trimmed_text argument_at chance_at count_at time_at task_at term_at terms_at reading
not_moved = refl

not_as_of : (v : ℕ) → v ≤ 2 → IsAsOf seen (held_at v) 1 → ⊥
not_as_of v l h = ⊎_elim
    (λ e. unspent (ap (λ u. (held_at u).execs a 0 1) e ∙ not_spent_at_0))
    (λ ne. ⊎_elim (λ e. unspent (ap (λ u. (held_at u).execs a 0 1) e ∙ not_spent_at_1))
    (λ n. moved (omega (arith, l, ne, n))) (cases_eq v 1))
    (cases_eq v 0)
  where
    unspent : (held_at v).execs a 0 1 ≡ 0 → ⊥
    unspent z =
        let one = (h.no_more (Count (Execs a key 0 1) 1) refl told_spend).0.1 in
        absurd (omega (arith, z, one))

    moved : v ≡ 2 → ⊥
    moved e =
        let upto = (upto_below (held_at v) seen a (h.above a)).shifts (ap (λ u. (held_at u).key a) e ∙ same_key_at_2) 0
        0 1 in
        let one : (held_at v).shifts a 0 0 1 ≡ 1 = ap (λ u. (held_at u).shifts a 0 0 1) e ∙ moved_at_2 in
        let none = not_moved in
        absurd (omega (arith, upto, one, none))

not_whole : SeesWhole (world (nodes 3) (reverse script)) seen 1 → ⊥
not_whole sees = not_as_of sees.version (subst (λ n. sees.version ≤ n) reached_upto sees.reached) sees.as_of
