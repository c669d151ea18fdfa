-- Three nodes: rights are handed on, and each node sees at last what was spent.
use Rattle.std.proofs.Common.{◌≡◌, ℕ, true, false, List, [], ◌∷◌, Some, Ok, inl, inr, refl}
use Rattle.std.specs.Prelude.{pos, reverse, codes}
use Rattle.std.specs.Fmt.{digits}
use Rattle.actions.specs.Value.{off}
use Rattle.actions.specs.Choice.{choice}
use Rattle.actions.specs.Numbers.{number_at, short_number_at, decimals_at, percent_at}
use Rattle.actions.specs.Reading.{pieces, trimmed_text, argument_at, chance_at, count_at, time_at, task_at, term_at, terms_at, reading}
use Rattle.counters.specs.Sums.{node_numbers}
use Rattle.stamp_register.specs.Keys.{KeyValue, terms_in_text}
use Rattle.operations.specs.Operations.{Hits, Execs, Shifts, Operation, Set, Count, IsIn, same_cell}
use Rattle.replica_state.specs.States.{rights_of, spent_of, total_hits}
use Rattle.replica_state.specs.Folds.{fold}
use Rattle.node_calls.specs.Asks.{Message}
use Rattle.node_calls.specs.Told.{NoTerm, Act}
use Rattle.node_calls.specs.Asks as asks
use Rattle.node_core.specs.Steps.{after}
use Rattle.cluster_model.specs.Worlds.{Event}
use Rattle.cluster_model.specs.Schedules.{IsSchedule}
use Rattle.cluster_model.specs.Histories.{state_of, all_executions, all_held, all_in_transit}
use Rattle.cluster_model.proofs.Examples.{nodes, event, stamp, key_at, first_told, message, answers, may_tell, may_send_one}

abbrev p : List ℕ
p = codes "p"

abbrev key : KeyValue
key = key_at 1 0 (codes "5*off")

-- what each message carries
abbrev from_0 : List Operation
from_0 = Count (Shifts p key 0 0 1) 2 ∷ Set p key ∷ []

abbrev from_1 : List Operation
from_1 = Count (Execs p key 0 1) 1 ∷ Count (Hits p 1) 1 ∷ Count (Shifts p key 0 1 2) 1 ∷ from_0

abbrev from_2 : List Operation
from_2 = Count (Hits p 2) 2 ∷ Count (Execs p key 0 2) 1 ∷ from_1

abbrev last : Message
last = record { from = 2; to = 0; base = 0; upto = 3; ack = 0; ops = from_2 }

abbrev script : List Event
script =
    event 0 (asks.Set p (codes "5*off")) ∷
    event 0 (asks.Shift p 0 1 2) ∷
    event 0 (asks.Emit 1 (first_told 2) from_0) ∷
    event 1 (asks.Deliver (Ok (message 0 1 2 from_0))) ∷
    event 1 (asks.Shift p 0 2 1) ∷
    event 1 (asks.Pass p) ∷
    event 1 (asks.Emit 2 (first_told 3) from_1) ∷
    event 2 (asks.Deliver (Ok (message 1 2 3 from_1))) ∷
    event 2 (asks.Pass p) ∷
    event 2 (asks.Pass p) ∷
    event 2 (asks.Emit 0 (first_told 3) from_2) ∷
    event 0 (asks.Deliver (Ok last)) ∷
    event 0 (asks.Deliver (Ok last)) ∷ []

answered : answers (nodes 3) script ≡
    Some (asks.IsSet (stamp 1 0)) ∷
    Some (asks.IsShifted 2) ∷
    Some (asks.IsEmitted (Ok (message 0 1 2 from_0))) ∷
    Some (asks.IsDelivered true) ∷
    Some (asks.IsShifted 1) ∷
    Some (asks.IsPassed (Act (stamp 1 0) 0 off)) ∷
    Some (asks.IsEmitted (Ok (message 1 2 3 from_1))) ∷
    Some (asks.IsDelivered true) ∷
    Some (asks.IsPassed (Act (stamp 1 0) 0 off)) ∷
    Some (asks.IsPassed (NoTerm (stamp 1 0))) ∷
    Some (asks.IsEmitted (Ok last)) ∷
    Some (asks.IsDelivered true) ∷
    Some (asks.IsDelivered false) ∷ []
unfolding digits node_numbers after fold same_cell terms_in_text choice number_at short_number_at decimals_at percent_at
    pieces trimmed_text argument_at chance_at count_at time_at task_at term_at terms_at reading
answered = refl

is_schedule : IsSchedule (nodes 3) (reverse script)
unfolding digits node_numbers after fold same_cell terms_in_text choice number_at short_number_at decimals_at percent_at
    pieces trimmed_text argument_at chance_at count_at time_at task_at term_at terms_at reading
is_schedule = (
  inr (inr (inl refl)),
  (
    inr (inr (inl refl)),
    (
      (
        may_tell _ 0 3 refl,
        may_send_one p key (Count (Hits p 2) 2 ∷ Count (Execs p key 0 2) 1 ∷ Count (Hits p 2) 1 ∷
            from_1) from_2 held_by_2 refl refl (inr (inr (inr (inr (inr (inr (inl refl))))))),
      ),
      (
        tt,
        (
          tt,
          (
            inr (inl refl),
            (
              (
                may_tell _ 2 3 refl,
                may_send_one p key from_1 from_1 (λ op h. h) refl refl
                    (inr (inr (inr (inr (inl refl))))),
              ),
              (
                tt,
                (
                  tt,
                  (
                    inl refl,
                    (
                      (
                        may_tell _ 1 2 refl,
                        may_send_one p key from_0 from_0 (λ op h. h) refl refl
                            (inr (inl refl)),
                      ),
                      (tt, (tt, tt)),
                    ),
                  ),
                ),
              ),
            ),
          ),
        ),
      ),
    ),
  ),
)
  where
    -- the earlier hit isn't sent
    held_by_2 : (op : Operation) → IsIn op from_2 → IsIn op (Count (Hits p 2) 2 ∷ Count (Execs p key 0 2) 1 ∷
        Count (Hits p 2) 1 ∷ from_1)
    held_by_2 op (inl e) = inl e
    held_by_2 op (inr (inl e)) = inr (inl e)
    held_by_2 op (inr (inr h)) = inr (inr (inr h))

spent_there : spent_of (state_of (nodes 3) (reverse script) 0) p 0 ≡ 2
unfolding digits node_numbers after fold same_cell terms_in_text choice number_at short_number_at decimals_at percent_at
    pieces trimmed_text argument_at chance_at count_at time_at task_at term_at terms_at reading
spent_there = refl

hits_there : total_hits (state_of (nodes 3) (reverse script) 0) p ≡ 3
unfolding digits node_numbers after fold same_cell terms_in_text choice number_at short_number_at decimals_at percent_at
    pieces trimmed_text argument_at chance_at count_at time_at task_at term_at terms_at reading
hits_there = refl

rights_of_0 : rights_of (state_of (nodes 3) (reverse script) 0) p 0 0 ≡ pos 3
unfolding digits node_numbers after fold same_cell terms_in_text choice number_at short_number_at decimals_at percent_at
    pieces trimmed_text argument_at chance_at count_at time_at task_at term_at terms_at reading
rights_of_0 = refl

rights_of_1 : rights_of (state_of (nodes 3) (reverse script) 0) p 0 1 ≡ pos 0
unfolding digits node_numbers after fold same_cell terms_in_text choice number_at short_number_at decimals_at percent_at
    pieces trimmed_text argument_at chance_at count_at time_at task_at term_at terms_at reading
rights_of_1 = refl

rights_of_2 : rights_of (state_of (nodes 3) (reverse script) 0) p 0 2 ≡ pos 0
unfolding digits node_numbers after fold same_cell terms_in_text choice number_at short_number_at decimals_at percent_at
    pieces trimmed_text argument_at chance_at count_at time_at task_at term_at terms_at reading
rights_of_2 = refl

executed : all_executions (nodes 3) (reverse script) (stamp 1 0) 0 ≡ 2
unfolding digits node_numbers after fold same_cell terms_in_text choice number_at short_number_at decimals_at percent_at
    pieces trimmed_text argument_at chance_at count_at time_at task_at term_at terms_at reading
executed = refl

left : all_held (nodes 3) (reverse script) p key 0 5 ≡ pos 3
unfolding digits node_numbers after fold same_cell terms_in_text choice number_at short_number_at decimals_at percent_at
    pieces trimmed_text argument_at chance_at count_at time_at task_at term_at terms_at reading
left = refl

none_in_transit : all_in_transit (nodes 3) (reverse script) p key 0 ≡ pos 0
unfolding digits node_numbers after fold same_cell terms_in_text choice number_at short_number_at decimals_at percent_at
    pieces trimmed_text argument_at chance_at count_at time_at task_at term_at terms_at reading
none_in_transit = refl
