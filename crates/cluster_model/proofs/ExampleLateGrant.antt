-- Two nodes: one spends a right that the other granted and moved to it, and wasn't told of the grant. A message that
-- tells
-- no execution is then refused, until the grant is told.
use Rattle.std.proofs.Common.{◌≡◌, ℕ, true, false, List, [], ◌∷◌, ◌++◌, Some, None, Ok, inl, inr, refl, arith}
use Rattle.std.specs.Prelude.{reverse, codes}
use Rattle.std.specs.Fmt.{digits}
use Rattle.actions.specs.Value.{off}
use Rattle.actions.specs.Choice.{choice}
use Rattle.actions.specs.Numbers.{number_at, short_number_at, decimals_at, percent_at}
use Rattle.actions.specs.Reading.{pieces, trimmed_text, argument_at, chance_at, count_at, time_at, task_at, term_at, terms_at, reading}
use Rattle.counters.specs.Sums.{node_numbers, sum_below}
use Rattle.stamp_register.specs.Keys.{KeyValue, terms_in_text}
use Rattle.operations.specs.Operations.{Shifts, Operation, Set, Count, IsIn, count_of, same_cell}
use Rattle.replica_state.specs.States.{State, granted_in}
use Rattle.replica_state.specs.Folds.{fold}
use Rattle.node_calls.specs.declared.fault.NodeFault.TheVariants as faults
use Rattle.node_calls.specs.Asks.{Message}
use Rattle.node_calls.specs.Told.{Act}
use Rattle.node_calls.specs.Asks as asks
use Rattle.node_core.specs.Steps.{after}
use Rattle.node_steps.specs.Refusals.{refusal_at}
use Rattle.cluster_model.specs.Worlds.{Event, config_of, world}
use Rattle.cluster_model.specs.Schedules.{IsSchedule}
use Rattle.cluster_model.specs.Histories.{all_granted}
use Rattle.cluster_model.specs.Laws.{merged, LacksGrant}
use Rattle.cluster_model.proofs.Examples.{nodes, event, stamp, key_at, first_told, message, answers, may_tell, may_send_one}

abbrev a : List ℕ
a = codes "a"

abbrev key : KeyValue
key = key_at 1 0 (codes "0*off")

abbrev setting : List Operation
setting = Set a key ∷ []

abbrev first : Message
first = message 0 1 1 setting

-- what node 1 moved to node 0, without the grant that paid for it
abbrev moves : List Operation
moves = Count (Shifts a key 0 1 0) 1 ∷ setting

-- the grant
abbrev grants : List Operation
grants = Count (Shifts a key 0 1 1) 1 ∷ setting

-- node 1 grants itself a right that it moves to node 0, which spends it; then it tells the setting again
abbrev before : List Event
before =
    event 0 (asks.Set a (codes "0*off")) ∷
    event 0 (asks.Emit 1 (first_told 1) setting) ∷
    event 1 (asks.Deliver (Ok first)) ∷
    event 1 (asks.Grant a 0 1) ∷
    event 1 (asks.Shift a 0 0 1) ∷
    event 1 (asks.Emit 0 (first_told 3) moves) ∷
    event 0 (asks.Deliver (Ok (message 1 0 3 moves))) ∷
    event 0 (asks.Pass a) ∷
    event 1 (asks.Emit 0 (first_told 3) setting) ∷ []

abbrev script : List Event
script =
    before ++
    event 0 (asks.Deliver (Ok (message 1 0 3 setting))) ∷
    event 1 (asks.Emit 0 (first_told 3) grants) ∷
    event 0 (asks.Deliver (Ok (message 1 0 3 grants))) ∷
    event 0 (asks.Deliver (Ok (message 1 0 3 setting))) ∷ []

answered : answers (nodes 2) script ≡
    Some (asks.IsSet (stamp 1 0)) ∷
    Some (asks.IsEmitted (Ok first)) ∷
    Some (asks.IsDelivered true) ∷
    Some (asks.IsGranted 1) ∷
    Some (asks.IsShifted 1) ∷
    Some (asks.IsEmitted (Ok (message 1 0 3 moves))) ∷
    Some (asks.IsDelivered true) ∷
    Some (asks.IsPassed (Act (stamp 1 0) 0 off)) ∷
    Some (asks.IsEmitted (Ok (message 1 0 3 setting))) ∷
    None ∷
    Some (asks.IsEmitted (Ok (message 1 0 3 grants))) ∷
    Some (asks.IsDelivered true) ∷
    Some (asks.IsDelivered false) ∷ []
unfolding digits node_numbers after fold same_cell terms_in_text choice number_at short_number_at decimals_at percent_at
    pieces trimmed_text argument_at chance_at count_at time_at task_at term_at terms_at reading
answered = refl

refused : refusal_at (config_of (nodes 2) 0) 4 ((world (nodes 2) (reverse before)).node 0)
    (asks.Deliver (Ok (message 1 0 3 setting))) [] ≡ Some faults.Overspent
unfolding digits node_numbers after fold same_cell terms_in_text choice number_at short_number_at decimals_at percent_at
    pieces trimmed_text argument_at chance_at count_at time_at task_at term_at terms_at reading
refused = refl

-- node 0 knows one execution and no grant, and one right was granted
abbrev known : State
known = merged (nodes 2) (reverse before) 0 (message 1 0 3 setting)

one_executed : sum_below node_numbers (known.execs a 0) ≡ 1
unfolding digits node_numbers after fold same_cell terms_in_text choice number_at short_number_at decimals_at percent_at
    pieces trimmed_text argument_at chance_at count_at time_at task_at term_at terms_at reading
one_executed = refl

no_grant_known : sum_below node_numbers (granted_in known a 0) ≡ 0
unfolding digits node_numbers after fold same_cell terms_in_text choice number_at short_number_at decimals_at percent_at
    pieces trimmed_text argument_at chance_at count_at time_at task_at term_at terms_at reading
no_grant_known = refl

one_granted : all_granted (nodes 2) (reverse before) a key 0 ≡ 1
unfolding digits node_numbers after fold same_cell terms_in_text choice number_at short_number_at decimals_at percent_at
    pieces trimmed_text argument_at chance_at count_at time_at task_at term_at terms_at reading
one_granted = refl

under_key : known.key a ≡ Some key
unfolding digits node_numbers after fold same_cell terms_in_text choice number_at short_number_at decimals_at percent_at
    pieces trimmed_text argument_at chance_at count_at time_at task_at term_at terms_at reading
under_key = refl

counted : count_of key 0 ≡ Some 0
unfolding terms_in_text number_at short_number_at decimals_at percent_at pieces trimmed_text argument_at chance_at
    count_at time_at task_at term_at terms_at reading
counted = refl

lacks : LacksGrant (nodes 2) (reverse before) known a
lacks = record {
  key = key;
  term = 0;
  count = 0;
  under = under_key;
  counted = counted;
  overspent = omega (arith, one_executed, no_grant_known);
  paid = omega (arith, one_executed, one_granted);
}

is_schedule : IsSchedule (nodes 2) (reverse script)
unfolding digits node_numbers after fold same_cell terms_in_text choice number_at short_number_at decimals_at percent_at
    pieces trimmed_text argument_at chance_at count_at time_at task_at term_at terms_at reading
is_schedule = (
  inr (inr (inl refl)),
  (
    inr (inr (inr (inl refl))),
    (
      (may_tell _ 0 3 refl, may_send_one a key held grants grants_held refl refl (inr (inl refl))),
      (
        tt,
        (
          (may_tell _ 0 3 refl, may_send_one a key held setting setting_held refl refl (inl refl)),
          (
            tt,
            (
              inr (inl refl),
              (
                (may_tell _ 0 3 refl, may_send_one a key held moves moves_held refl refl (inr (inl refl))),
                (
                  tt,
                  (
                    tt,
                    (
                      inl refl,
                      (
                        (
                          may_tell _ 1 1 refl,
                          may_send_one a key setting setting (λ op h. h) refl refl
                              (inl refl),
                        ),
                        (tt, tt),
                      ),
                    ),
                  ),
                ),
              ),
            ),
          ),
        ),
      ),
    ),
  ),
)
  where
    held : List Operation
    held = Count (Shifts a key 0 1 0) 1 ∷ Count (Shifts a key 0 1 1) 1 ∷ setting

    setting_held : (op : Operation) → IsIn op setting → IsIn op held
    setting_held op h = inr (inr h)

    grants_held : (op : Operation) → IsIn op grants → IsIn op held
    grants_held op h = inr h

    moves_held : (op : Operation) → IsIn op moves → IsIn op held
    moves_held op (inl e) = inl e
    moves_held op (inr h) = inr (inr h)
