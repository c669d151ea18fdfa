-- Two nodes: a message that tells an execution and leaves out the grant that paid for it is refused, until the grant
-- is told too.
use Rattle.std.proofs.Common.{◌≡◌, ℕ, true, List, [], ◌∷◌, ◌++◌, Some, None, Ok, inl, inr, refl}
use Rattle.std.specs.Prelude.{reverse, codes}
use Rattle.std.specs.Fmt.{digits}
use Rattle.actions.specs.Value.{off}
use Rattle.actions.specs.Choice.{choice}
use Rattle.actions.specs.Numbers.{number_at, short_number_at, decimals_at, percent_at}
use Rattle.actions.specs.Reading.{pieces, trimmed_text, argument_at, chance_at, count_at, time_at, task_at, term_at, terms_at, reading}
use Rattle.counters.specs.Sums.{node_numbers}
use Rattle.stamp_register.specs.Keys.{KeyValue, terms_in_text}
use Rattle.operations.specs.Operations.{Hits, Execs, Shifts, Operation, Set, Count, IsIn, same_cell}
use Rattle.replica_state.specs.States.{spent_of}
use Rattle.replica_state.specs.Folds.{fold}
use Rattle.node_calls.specs.declared.fault.NodeFault.TheVariants as faults
use Rattle.node_calls.specs.Asks.{Message}
use Rattle.node_calls.specs.Told.{Act}
use Rattle.node_calls.specs.Asks as asks
use Rattle.node_core.specs.Steps.{after}
use Rattle.node_steps.specs.Refusals.{refusal_at}
use Rattle.cluster_model.specs.Worlds.{Event, config_of, world}
use Rattle.cluster_model.specs.Schedules.{IsSchedule}
use Rattle.cluster_model.specs.Histories.{state_of}
use Rattle.cluster_model.proofs.Examples.{nodes, event, stamp, key_at, first_told, message, answers, may_tell, may_send_one}

abbrev a : List ℕ
a = codes "a"

abbrev key : KeyValue
key = key_at 1 0 (codes "1*off")

abbrev first : Message
first = message 0 1 2 (Set a key ∷ [])

abbrev spend : List Operation
spend = Count (Execs a key 0 1) 1 ∷ Set a key ∷ []

abbrev both : List Operation
both = Count (Shifts a key 0 1 1) 1 ∷ spend

-- the setter spends the count, and node 1 a right that it granted itself
abbrev before : List Event
before =
    event 0 (asks.Set a (codes "1*off")) ∷
    event 0 (asks.Pass a) ∷
    event 0 (asks.Emit 1 (first_told 2) (Set a key ∷ [])) ∷
    event 1 (asks.Deliver (Ok first)) ∷
    event 1 (asks.Grant a 0 1) ∷
    event 1 (asks.Pass a) ∷
    event 1 (asks.Emit 0 (first_told 3) spend) ∷ []

abbrev script : List Event
script =
    before ++
    event 0 (asks.Deliver (Ok (message 1 0 3 spend))) ∷
    event 1 (asks.Emit 0 (first_told 3) both) ∷
    event 0 (asks.Deliver (Ok (message 1 0 3 both))) ∷ []

answered : answers (nodes 2) script ≡
    Some (asks.IsSet (stamp 1 0)) ∷
    Some (asks.IsPassed (Act (stamp 1 0) 0 off)) ∷
    Some (asks.IsEmitted (Ok first)) ∷
    Some (asks.IsDelivered true) ∷
    Some (asks.IsGranted 1) ∷
    Some (asks.IsPassed (Act (stamp 1 0) 0 off)) ∷
    Some (asks.IsEmitted (Ok (message 1 0 3 spend))) ∷
    None ∷
    Some (asks.IsEmitted (Ok (message 1 0 3 both))) ∷
    Some (asks.IsDelivered true) ∷ []
unfolding digits node_numbers after fold same_cell terms_in_text choice number_at short_number_at decimals_at percent_at
    pieces trimmed_text argument_at chance_at count_at time_at task_at term_at terms_at reading
answered = refl

refused : refusal_at (config_of (nodes 2) 0) 3 ((world (nodes 2) (reverse before)).node 0)
    (asks.Deliver (Ok (message 1 0 3 spend))) [] ≡ Some faults.Overspent
unfolding digits node_numbers after fold same_cell terms_in_text choice number_at short_number_at decimals_at percent_at
    pieces trimmed_text argument_at chance_at count_at time_at task_at term_at terms_at reading
refused = refl

spent_then : spent_of (state_of (nodes 2) (reverse script) 0) a 0 ≡ 2
unfolding digits node_numbers after fold same_cell terms_in_text choice number_at short_number_at decimals_at percent_at
    pieces trimmed_text argument_at chance_at count_at time_at task_at term_at terms_at reading
spent_then = refl

is_schedule : IsSchedule (nodes 2) (reverse script)
unfolding digits node_numbers after fold same_cell terms_in_text choice number_at short_number_at decimals_at percent_at
    pieces trimmed_text argument_at chance_at count_at time_at task_at term_at terms_at reading
is_schedule = (
  inr (inr (inl refl)),
  (
    (may_tell _ 0 3 refl, may_send_one a key held both both_held refl refl (inr (inr (inl refl)))),
    (
      tt,
      (
        (may_tell _ 0 3 refl, may_send_one a key held spend (λ op h. both_held op (inr h)) refl refl (inr (inl refl))),
        (
          tt,
          (
            tt,
            (
              inl refl,
              (
                (
                  may_tell _ 1 2 refl,
                  may_send_one a key known_by_0 (Set a key ∷ []) set_known refl refl
                      (inl refl),
                ),
                (tt, (tt, tt)),
              ),
            ),
          ),
        ),
      ),
    ),
  ),
)
  where
    held : List Operation
    held = Count (Execs a key 0 1) 1 ∷ Count (Hits a 1) 1 ∷ Count (Shifts a key 0 1 1) 1 ∷ Set a key ∷ []

    both_held : (op : Operation) → IsIn op both → IsIn op held
    both_held op (inl e) = inr (inr (inl e))
    both_held op (inr (inl e)) = inl e
    both_held op (inr (inr (inl e))) = inr (inr (inr (inl e)))
    both_held op (inr (inr (inr h))) = absurd h

    known_by_0 : List Operation
    known_by_0 = Count (Execs a key 0 0) 1 ∷ Count (Hits a 0) 1 ∷ Set a key ∷ []

    set_known : (op : Operation) → IsIn op (Set a key ∷ []) → IsIn op known_by_0
    set_known op (inl e) = inr (inr (inl e))
    set_known op (inr h) = absurd h
