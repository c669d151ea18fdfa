-- Two nodes that send what differs: one grants itself a right beyond a count of none and spends it. The message that
-- tells
-- the execution tells the grant too, and so it isn't refused, as it would be without.
use Rattle.std.proofs.Common.{◌≡◌, ℕ, true, false, List, [], ◌∷◌, ◌++◌, Some, Ok, inl, inr, refl, sym, subst, arith}
use Rattle.std.specs.Prelude.{reverse, codes}
use Rattle.std.specs.Fmt.{digits}
use Rattle.actions.specs.Value.{off}
use Rattle.actions.specs.Choice.{choice}
use Rattle.actions.specs.Numbers.{number_at, short_number_at, decimals_at, percent_at}
use Rattle.actions.specs.Reading.{pieces, trimmed_text, argument_at, chance_at, count_at, time_at, task_at, term_at, terms_at, reading}
use Rattle.counters.specs.Sums.{node_numbers}
use Rattle.stamp_register.specs.Keys.{KeyValue, terms_in_text}
use Rattle.operations.specs.Operations.{Hits, Execs, Shifts, Operation, Set, Count, IsIn, same_cell}
use Rattle.replica_state.specs.Folds.{fold}
use Rattle.replica_state.specs.Deltas.{IsTold, IsDelta}
use Rattle.node_calls.specs.Asks.{Message}
use Rattle.node_calls.specs.Told.{Act}
use Rattle.node_calls.specs.Asks as asks
use Rattle.node_core.specs.Steps.{after}
use Rattle.node_core.specs.Traces.{refusal}
use Rattle.cluster_model.specs.Worlds.{Event, world}
use Rattle.cluster_model.specs.Schedules.{IsDeltaSchedule}
use Rattle.cluster_model.specs.Laws.{kept, IsOwnReason, merge_overspends}
use Rattle.cluster_model.proofs.DeltaMessages.{delta_messages}
use Rattle.cluster_model.proofs.Examples.{nodes, event, stamp, key_at, versions, first_told, message, answers, all_of_one}

abbrev a : List ℕ
a = codes "a"

abbrev key : KeyValue
key = key_at 1 0 (codes "0*off")

abbrev setting : List Operation
setting = Set a key ∷ []

abbrev first : Message
first = message 0 1 1 setting

abbrev spends : List Operation
spends = Count (Execs a key 0 1) 1 ∷ Count (Hits a 1) 1 ∷ Count (Shifts a key 0 1 1) 1 ∷ setting

abbrev second : Message
second = record { from = 1; to = 0; base = 0; upto = 3; ack = 1; ops = spends }

-- the same without the grant
abbrev untold : Message
untold = record second { ops = Count (Execs a key 0 1) 1 ∷ Count (Hits a 1) 1 ∷ setting }

abbrev before : List Event
before =
    event 0 (asks.Set a (codes "0*off")) ∷
    event 0 (asks.Emit 1 (first_told 1) setting) ∷
    event 1 (asks.Deliver (Ok first)) ∷
    event 1 (asks.Grant a 0 1) ∷
    event 1 (asks.Pass a) ∷
    event 1 (asks.Emit 0 (versions 0 3 1) spends) ∷ []

abbrev script : List Event
script = before ++ event 0 (asks.Deliver (Ok second)) ∷ []

answered : answers (nodes 2) script ≡
    Some (asks.IsSet (stamp 1 0)) ∷
    Some (asks.IsEmitted (Ok first)) ∷
    Some (asks.IsDelivered true) ∷
    Some (asks.IsGranted 1) ∷
    Some (asks.IsPassed (Act (stamp 1 0) 0 off)) ∷
    Some (asks.IsEmitted (Ok second)) ∷
    Some (asks.IsDelivered true) ∷ []
unfolding digits node_numbers after fold same_cell terms_in_text choice number_at short_number_at decimals_at percent_at
    pieces trimmed_text argument_at chance_at count_at time_at task_at term_at terms_at reading
answered = refl

setting_differs : IsDelta (fold []) (fold setting) setting
unfolding digits node_numbers after fold same_cell terms_in_text choice number_at short_number_at decimals_at percent_at
    pieces trimmed_text argument_at chance_at count_at time_at task_at term_at terms_at reading
setting_differs = all_of_one a key setting setting refl (inl refl) told (λ op h t. h)
  where
    told : (op : Operation) → IsIn op setting → IsTold (fold setting) op
    told op (inl e) = subst (IsTold (fold setting)) (sym e) refl
    told op (inr h) = absurd h

spends_differ : IsDelta (fold []) (fold spends) spends
unfolding digits node_numbers after fold same_cell terms_in_text choice number_at short_number_at decimals_at percent_at
    pieces trimmed_text argument_at chance_at count_at time_at task_at term_at terms_at reading
spends_differ = all_of_one a key spends spends refl (inr (inr (inr (inl refl)))) told (λ op h t. h)
  where
    told : (op : Operation) → IsIn op spends → IsTold (fold spends) op
    told op (inl e) = subst (IsTold (fold spends)) (sym e) ((refl, refl), λ z. omega (arith, z))
    told op (inr (inl e)) = subst (IsTold (fold spends)) (sym e) (refl, λ z. omega (arith, z))
    told op (inr (inr (inl e))) = subst (IsTold (fold spends)) (sym e) ((refl, refl), λ z. omega (arith, z))
    told op (inr (inr (inr (inl e)))) = subst (IsTold (fold spends)) (sym e) refl
    told op (inr (inr (inr (inr h)))) = absurd h

is_schedule : IsDeltaSchedule (nodes 2) (reverse before)
unfolding digits node_numbers after fold same_cell terms_in_text choice number_at short_number_at decimals_at percent_at
    pieces trimmed_text argument_at chance_at count_at time_at task_at term_at terms_at reading
is_schedule = ((refl, spends_differ), (tt, (tt, (inl refl, ((refl, setting_differs), (tt, tt))))))

is_sent : IsIn second (world (nodes 2) (reverse before)).messages
unfolding digits node_numbers after fold same_cell terms_in_text choice number_at short_number_at decimals_at percent_at
    pieces trimmed_text argument_at chance_at count_at time_at task_at term_at terms_at reading
is_sent = inr (inl refl)

-- so by the law it isn't refused for what it says
taken : IsOwnReason (refusal (kept (nodes 2) (reverse before) 0) (asks.Deliver (Ok second)) [])
taken = (delta_messages (nodes 2) (reverse before) is_schedule 0 second is_sent).1

not_overspent : merge_overspends (nodes 2) (reverse before) 0 second ≡ false
not_overspent = (delta_messages (nodes 2) (reverse before) is_schedule 0 second is_sent).0 refl

-- and without the grant it would be
overspent_untold : merge_overspends (nodes 2) (reverse before) 0 untold ≡ true
unfolding digits node_numbers after fold same_cell terms_in_text choice number_at short_number_at decimals_at percent_at
    pieces trimmed_text argument_at chance_at count_at time_at task_at term_at terms_at reading
overspent_untold = refl
