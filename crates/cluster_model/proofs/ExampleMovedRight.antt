-- Two nodes: rights stay with the node that set the point, until one is moved.
use Rattle.std.proofs.Common.{◌≡◌, ℕ, true, false, List, [], ◌∷◌, ◌++◌, Some, Ok, inl, inr, refl}
use Rattle.std.specs.Prelude.{pos, reverse, codes}
use Rattle.std.specs.Fmt.{digits}
use Rattle.actions.specs.Value.{off}
use Rattle.actions.specs.Choice.{choice}
use Rattle.actions.specs.Numbers.{number_at, short_number_at, decimals_at, percent_at}
use Rattle.actions.specs.Reading.{pieces, trimmed_text, argument_at, chance_at, count_at, time_at, task_at, term_at, terms_at, reading}
use Rattle.counters.specs.Sums.{node_numbers}
use Rattle.stamp_register.specs.Keys.{KeyValue, terms_in_text}
use Rattle.operations.specs.Operations.{Shifts, Operation, Set, Count, same_cell}
use Rattle.replica_state.specs.States.{rights_of}
use Rattle.replica_state.specs.Folds.{fold}
use Rattle.node_calls.specs.Asks.{Message}
use Rattle.node_calls.specs.Told.{NoTerm, Act}
use Rattle.node_calls.specs.Asks as asks
use Rattle.node_core.specs.Steps.{after}
use Rattle.cluster_model.specs.Worlds.{Event}
use Rattle.cluster_model.specs.Schedules.{IsSchedule}
use Rattle.cluster_model.specs.Histories.{state_of, all_executions, moved, seen, all_held}
use Rattle.cluster_model.proofs.Examples.{nodes, event, stamp, key_at, first_told, message, answers, may_tell, may_send_one}

abbrev a : List ℕ
a = codes "a"

abbrev key : KeyValue
key = key_at 1 0 (codes "2*off")

abbrev first : Message
first = message 0 1 1 (Set a key ∷ [])

-- the right that is moved is told by the second message
abbrev moves : List Operation
moves = Count (Shifts a key 0 0 1) 1 ∷ Set a key ∷ []

abbrev second : Message
second = message 0 1 2 moves

abbrev stays : List Event
stays =
    event 0 (asks.Set a (codes "2*off")) ∷
    event 0 (asks.Emit 1 (first_told 1) (Set a key ∷ [])) ∷
    event 1 (asks.Deliver (Ok first)) ∷
    event 1 (asks.Pass a) ∷ []

abbrev moved_on : List Event
moved_on =
    stays ++
    event 0 (asks.Shift a 0 1 1) ∷
    event 0 (asks.Emit 1 (first_told 2) moves) ∷
    event 1 (asks.Deliver (Ok second)) ∷
    event 1 (asks.Deliver (Ok second)) ∷
    event 1 (asks.Pass a) ∷
    event 1 (asks.Pass a) ∷ []

stays_answers : answers (nodes 2) stays ≡
    Some (asks.IsSet (stamp 1 0)) ∷
    Some (asks.IsEmitted (Ok first)) ∷
    Some (asks.IsDelivered true) ∷
    Some (asks.IsPassed (NoTerm (stamp 1 0))) ∷ []
unfolding digits node_numbers after fold same_cell terms_in_text choice number_at short_number_at decimals_at percent_at
    pieces trimmed_text argument_at chance_at count_at time_at task_at term_at terms_at reading
stays_answers = refl

setter_has_rights : rights_of (state_of (nodes 2) (reverse stays) 0) a 0 0 ≡ pos 2
unfolding digits node_numbers after fold same_cell terms_in_text choice number_at short_number_at decimals_at percent_at
    pieces trimmed_text argument_at chance_at count_at time_at task_at term_at terms_at reading
setter_has_rights = refl

other_has_none : rights_of (state_of (nodes 2) (reverse stays) 1) a 0 1 ≡ pos 0
unfolding digits node_numbers after fold same_cell terms_in_text choice number_at short_number_at decimals_at percent_at
    pieces trimmed_text argument_at chance_at count_at time_at task_at term_at terms_at reading
other_has_none = refl

moved_answers : answers (nodes 2) moved_on ≡
    Some (asks.IsSet (stamp 1 0)) ∷
    Some (asks.IsEmitted (Ok first)) ∷
    Some (asks.IsDelivered true) ∷
    Some (asks.IsPassed (NoTerm (stamp 1 0))) ∷
    Some (asks.IsShifted 1) ∷
    Some (asks.IsEmitted (Ok second)) ∷
    Some (asks.IsDelivered true) ∷
    Some (asks.IsDelivered false) ∷
    Some (asks.IsPassed (Act (stamp 1 0) 0 off)) ∷
    Some (asks.IsPassed (NoTerm (stamp 1 0))) ∷ []
unfolding digits node_numbers after fold same_cell terms_in_text choice number_at short_number_at decimals_at percent_at
    pieces trimmed_text argument_at chance_at count_at time_at task_at term_at terms_at reading
moved_answers = refl

moved_is_schedule : IsSchedule (nodes 2) (reverse moved_on)
unfolding digits node_numbers after fold same_cell terms_in_text choice number_at short_number_at decimals_at percent_at
    pieces trimmed_text argument_at chance_at count_at time_at task_at term_at terms_at reading
moved_is_schedule = (
  tt,
  (
    tt,
    (
      inr (inl refl),
      (
        inr (inl refl),
        (
          (may_tell _ 1 2 refl, may_send_one a key moves moves (λ op h. h) refl refl (inr (inl refl))),
          (
            tt,
            (
              tt,
              (
                inl refl,
                (
                  (
                    may_tell _ 1 1 refl,
                    may_send_one a key (Set a key ∷ []) (Set a key ∷ []) (λ op h. h) refl
                        refl (inl refl),
                  ),
                  (tt, tt),
                ),
              ),
            ),
          ),
        ),
      ),
    ),
  ),
)

seen_all_that_moved : seen (nodes 2) (reverse moved_on) a key 0 0 1 ≡ moved (nodes 2) (reverse moved_on) a key 0 0 1
unfolding digits node_numbers after fold same_cell terms_in_text choice number_at short_number_at decimals_at percent_at
    pieces trimmed_text argument_at chance_at count_at time_at task_at term_at terms_at reading
seen_all_that_moved = refl

held_then : all_held (nodes 2) (reverse moved_on) a key 0 2 ≡ pos 1
unfolding digits node_numbers after fold same_cell terms_in_text choice number_at short_number_at decimals_at percent_at
    pieces trimmed_text argument_at chance_at count_at time_at task_at term_at terms_at reading
held_then = refl

executed_then : all_executions (nodes 2) (reverse moved_on) (stamp 1 0) 0 ≡ 1
unfolding digits node_numbers after fold same_cell terms_in_text choice number_at short_number_at decimals_at percent_at
    pieces trimmed_text argument_at chance_at count_at time_at task_at term_at terms_at reading
executed_then = refl
