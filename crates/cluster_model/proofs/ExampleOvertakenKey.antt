-- Two nodes: a node that hasn't heard of a newer key goes on under the old one, and its executions count.
use Rattle.std.proofs.Common.{◌≡◌, ℕ, true, List, [], ◌∷◌, Some, None, Ok, inl, inr, refl}
use Rattle.std.specs.Prelude.{pos, reverse, codes}
use Rattle.std.specs.Fmt.{digits}
use Rattle.actions.specs.Value.{off, panic}
use Rattle.actions.specs.Choice.{choice}
use Rattle.actions.specs.Numbers.{number_at, short_number_at, decimals_at, percent_at}
use Rattle.actions.specs.Reading.{pieces, trimmed_text, argument_at, chance_at, count_at, time_at, task_at, term_at, terms_at, reading}
use Rattle.counters.specs.Sums.{node_numbers}
use Rattle.stamp_register.specs.Keys.{KeyValue, terms_in_text}
use Rattle.operations.specs.Operations.{Shifts, Operation, Set, Count, same_cell}
use Rattle.replica_state.specs.Folds.{fold}
use Rattle.node_calls.specs.Asks.{Message}
use Rattle.node_calls.specs.Told.{NoTerm, Act}
use Rattle.node_calls.specs.Asks as asks
use Rattle.node_core.specs.Steps.{after}
use Rattle.cluster_model.specs.Worlds.{Event}
use Rattle.cluster_model.specs.Schedules.{IsSchedule}
use Rattle.cluster_model.specs.Histories.{all_executions, held, all_in_transit}
use Rattle.cluster_model.proofs.Examples.{nodes, event, stamp, key_at, first_told, message, answers, may_tell, may_send_one}

abbrev p : List ℕ
p = codes "p"

abbrev key : KeyValue
key = key_at 1 0 (codes "3*panic")

abbrev moves : List Operation
moves = Count (Shifts p key 0 0 1) 1 ∷ Set p key ∷ []

abbrev first : Message
first = message 0 1 2 moves

abbrev script : List Event
script =
    event 0 (asks.Set p (codes "3*panic")) ∷
    event 0 (asks.Shift p 0 1 1) ∷
    event 0 (asks.Emit 1 (first_told 2) moves) ∷
    event 1 (asks.Deliver (Ok first)) ∷
    event 0 (asks.Pass p) ∷
    event 0 (asks.Set p (codes "off")) ∷
    event 0 (asks.Pass p) ∷
    event 1 (asks.Pass p) ∷
    event 1 (asks.Pass p) ∷ []

answered : answers (nodes 2) script ≡
    Some (asks.IsSet (stamp 1 0)) ∷
    Some (asks.IsShifted 1) ∷
    Some (asks.IsEmitted (Ok first)) ∷
    Some (asks.IsDelivered true) ∷
    Some (asks.IsPassed (Act (stamp 1 0) 0 (panic None))) ∷
    Some (asks.IsSet (stamp 2 0)) ∷
    Some (asks.IsPassed (Act (stamp 2 0) 0 off)) ∷
    Some (asks.IsPassed (Act (stamp 1 0) 0 (panic None))) ∷
    Some (asks.IsPassed (NoTerm (stamp 1 0))) ∷ []
unfolding digits node_numbers after fold same_cell terms_in_text choice number_at short_number_at decimals_at percent_at
    pieces trimmed_text argument_at chance_at count_at time_at task_at term_at terms_at reading
answered = refl

is_schedule : IsSchedule (nodes 2) (reverse script)
unfolding digits node_numbers after fold same_cell terms_in_text choice number_at short_number_at decimals_at percent_at
    pieces trimmed_text argument_at chance_at count_at time_at task_at term_at terms_at reading
is_schedule = (
  tt,
  (
    tt,
    (
      tt,
      (
        tt,
        (
          tt,
          (
            inl refl,
            (
              (
                may_tell _ 1 2 refl,
                may_send_one p key moves moves (λ op h. h) refl refl (inr (inl refl)),
              ),
              (tt, (tt, tt)),
            ),
          ),
        ),
      ),
    ),
  ),
)

executed : all_executions (nodes 2) (reverse script) (stamp 1 0) 0 ≡ 2
unfolding digits node_numbers after fold same_cell terms_in_text choice number_at short_number_at decimals_at percent_at
    pieces trimmed_text argument_at chance_at count_at time_at task_at term_at terms_at reading
executed = refl

held_by_setter : held (nodes 2) (reverse script) p key 0 3 0 ≡ pos 1
unfolding digits node_numbers after fold same_cell terms_in_text choice number_at short_number_at decimals_at percent_at
    pieces trimmed_text argument_at chance_at count_at time_at task_at term_at terms_at reading
held_by_setter = refl

held_by_other : held (nodes 2) (reverse script) p key 0 3 1 ≡ pos 0
unfolding digits node_numbers after fold same_cell terms_in_text choice number_at short_number_at decimals_at percent_at
    pieces trimmed_text argument_at chance_at count_at time_at task_at term_at terms_at reading
held_by_other = refl

none_in_transit : all_in_transit (nodes 2) (reverse script) p key 0 ≡ pos 0
unfolding digits node_numbers after fold same_cell terms_in_text choice number_at short_number_at decimals_at percent_at
    pieces trimmed_text argument_at chance_at count_at time_at task_at term_at terms_at reading
none_in_transit = refl
