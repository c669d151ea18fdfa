-- Two nodes that send what differs: one that was given no right grants itself some, and the other hears of it.
use Rattle.std.proofs.Common.{◌≡◌, ℕ, true, List, [], ◌∷◌, Some, Ok, inl, inr, refl, sym, subst, arith}
use Rattle.std.specs.Prelude.{pos, reverse, codes}
use Rattle.std.specs.Fmt.{digits}
use Rattle.actions.specs.Value.{off}
use Rattle.actions.specs.Choice.{choice}
use Rattle.actions.specs.Numbers.{number_at, short_number_at, decimals_at, percent_at}
use Rattle.actions.specs.Reading.{pieces, trimmed_text, argument_at, chance_at, count_at, time_at, task_at, term_at, terms_at, reading}
use Rattle.counters.specs.Sums.{node_numbers}
use Rattle.stamp_register.specs.Keys.{KeyValue, terms_in_text}
use Rattle.operations.specs.Operations.{Hits, Execs, Shifts, Operation, Set, Count, IsIn, same_cell}
use Rattle.replica_state.specs.States.{granted_in, rights_of, spent_of}
use Rattle.replica_state.specs.Folds.{fold}
use Rattle.replica_state.specs.Deltas.{IsTold, IsDelta}
use Rattle.node_calls.specs.Asks.{Message}
use Rattle.node_calls.specs.Told.{NoTerm, Act}
use Rattle.node_calls.specs.Asks as asks
use Rattle.node_core.specs.Steps.{after}
use Rattle.cluster_model.specs.Worlds.{Event}
use Rattle.cluster_model.specs.Schedules.{IsDeltaSchedule}
use Rattle.cluster_model.specs.Histories.{state_of, all_held, all_in_transit, all_granted, all_executions}
use Rattle.cluster_model.proofs.Examples.{nodes, event, stamp, key_at, versions, first_told, message, answers, all_of_one}

abbrev a : List ℕ
a = codes "a"

abbrev key : KeyValue
key = key_at 1 0 (codes "2*off")

abbrev setting : List Operation
setting = Set a key ∷ []

abbrev first : Message
first = message 0 1 1 setting

-- what node 1 tells: what it executed and passed, with the grant that paid for it
abbrev spends : List Operation
spends = Count (Execs a key 0 1) 1 ∷ Count (Hits a 1) 2 ∷ Count (Shifts a key 0 1 1) 3 ∷ setting

abbrev second : Message
second = record { from = 1; to = 0; base = 0; upto = 4; ack = 1; ops = spends }

abbrev script : List Event
script =
    event 0 (asks.Set a (codes "2*off")) ∷
    event 0 (asks.Emit 1 (first_told 1) setting) ∷
    event 1 (asks.Deliver (Ok first)) ∷
    event 1 (asks.Pass a) ∷
    event 1 (asks.Grant a 0 3) ∷
    event 1 (asks.Pass a) ∷
    event 1 (asks.Emit 0 (versions 0 4 1) spends) ∷
    event 0 (asks.Deliver (Ok second)) ∷ []

answered : answers (nodes 2) script ≡
    Some (asks.IsSet (stamp 1 0)) ∷
    Some (asks.IsEmitted (Ok first)) ∷
    Some (asks.IsDelivered true) ∷
    Some (asks.IsPassed (NoTerm (stamp 1 0))) ∷
    Some (asks.IsGranted 3) ∷
    Some (asks.IsPassed (Act (stamp 1 0) 0 off)) ∷
    Some (asks.IsEmitted (Ok second)) ∷
    Some (asks.IsDelivered true) ∷ []
unfolding digits node_numbers after fold same_cell terms_in_text choice number_at short_number_at decimals_at percent_at
    pieces trimmed_text argument_at chance_at count_at time_at task_at term_at terms_at reading
answered = refl

-- ---- each message tells what differs from nothing, which is what its receiver is known to have

setting_differs : IsDelta (fold []) (fold setting) setting
unfolding digits node_numbers after fold same_cell terms_in_text choice number_at short_number_at decimals_at percent_at
    pieces trimmed_text argument_at chance_at count_at time_at task_at term_at terms_at reading
setting_differs = all_of_one a key setting setting refl (inl refl) told (λ op h t. h)
  where
    told : (op : Operation) → IsIn op setting → IsTold (fold setting) op
    told op (inl e) = subst (IsTold (fold setting)) (sym e) refl
    told op (inr h) = absurd h

-- all that node 1 knows; of its two hits the later one tells both
abbrev known : List Operation
known = Count (Execs a key 0 1) 1 ∷ Count (Hits a 1) 2 ∷ Count (Shifts a key 0 1 1) 3 ∷ Count (Hits a 1) 1 ∷ setting

spends_differ : IsDelta (fold []) (fold known) spends
unfolding digits node_numbers after fold same_cell terms_in_text choice number_at short_number_at decimals_at percent_at
    pieces trimmed_text argument_at chance_at count_at time_at task_at term_at terms_at reading
spends_differ = all_of_one a key known spends refl (inr (inr (inr (inr (inl refl))))) told rest
  where
    told : (op : Operation) → IsIn op spends → IsTold (fold known) op
    told op (inl e) = subst (IsTold (fold known)) (sym e) ((refl, refl), λ z. omega (arith, z))
    told op (inr (inl e)) = subst (IsTold (fold known)) (sym e) (refl, λ z. omega (arith, z))
    told op (inr (inr (inl e))) = subst (IsTold (fold known)) (sym e) ((refl, refl), λ z. omega (arith, z))
    told op (inr (inr (inr (inl e)))) = subst (IsTold (fold known)) (sym e) refl
    told op (inr (inr (inr (inr h)))) = absurd h

    overtaken : IsTold (fold known) (Count (Hits a 1) 1) → ⊥
    overtaken t = let two : ◌≡◌ {A = ℕ} 2 1 = t.0 in omega (arith, two)

    rest : (op : Operation) → IsIn op known → IsTold (fold known) op → IsIn op spends
    rest op (inl e) t = inl e
    rest op (inr (inl e)) t = inr (inl e)
    rest op (inr (inr (inl e))) t = inr (inr (inl e))
    rest op (inr (inr (inr (inl e)))) t = absurd (overtaken (subst (IsTold (fold known)) e t))
    rest op (inr (inr (inr (inr h)))) t = inr (inr (inr h))

is_schedule : IsDeltaSchedule (nodes 2) (reverse script)
unfolding digits node_numbers after fold same_cell terms_in_text choice number_at short_number_at decimals_at percent_at
    pieces trimmed_text argument_at chance_at count_at time_at task_at term_at terms_at reading
is_schedule = (
  inr (inl refl),
  (
    (refl, spends_differ),
    (
      tt,
      (
        tt,
        (tt, (inl refl, ((refl, setting_differs), (tt, tt)))),
      ),
    ),
  ),
)

-- what node 0 then knows of both
granted_seen : granted_in (state_of (nodes 2) (reverse script) 0) a 0 1 ≡ 3
unfolding digits node_numbers after fold same_cell terms_in_text choice number_at short_number_at decimals_at percent_at
    pieces trimmed_text argument_at chance_at count_at time_at task_at term_at terms_at reading
granted_seen = refl

granter_has : rights_of (state_of (nodes 2) (reverse script) 0) a 0 1 ≡ pos 2
unfolding digits node_numbers after fold same_cell terms_in_text choice number_at short_number_at decimals_at percent_at
    pieces trimmed_text argument_at chance_at count_at time_at task_at term_at terms_at reading
granter_has = refl

setter_has : rights_of (state_of (nodes 2) (reverse script) 0) a 0 0 ≡ pos 2
unfolding digits node_numbers after fold same_cell terms_in_text choice number_at short_number_at decimals_at percent_at
    pieces trimmed_text argument_at chance_at count_at time_at task_at term_at terms_at reading
setter_has = refl

spent_seen : spent_of (state_of (nodes 2) (reverse script) 0) a 0 ≡ 1
unfolding digits node_numbers after fold same_cell terms_in_text choice number_at short_number_at decimals_at percent_at
    pieces trimmed_text argument_at chance_at count_at time_at task_at term_at terms_at reading
spent_seen = refl

-- 4 held, none in transit and 1 executed are 2 counted and 3 granted
held_then : all_held (nodes 2) (reverse script) a key 0 2 ≡ pos 4
unfolding digits node_numbers after fold same_cell terms_in_text choice number_at short_number_at decimals_at percent_at
    pieces trimmed_text argument_at chance_at count_at time_at task_at term_at terms_at reading
held_then = refl

in_transit_then : all_in_transit (nodes 2) (reverse script) a key 0 ≡ pos 0
unfolding digits node_numbers after fold same_cell terms_in_text choice number_at short_number_at decimals_at percent_at
    pieces trimmed_text argument_at chance_at count_at time_at task_at term_at terms_at reading
in_transit_then = refl

executed_then : all_executions (nodes 2) (reverse script) (stamp 1 0) 0 ≡ 1
unfolding digits node_numbers after fold same_cell terms_in_text choice number_at short_number_at decimals_at percent_at
    pieces trimmed_text argument_at chance_at count_at time_at task_at term_at terms_at reading
executed_then = refl

granted_then : all_granted (nodes 2) (reverse script) a key 0 ≡ 3
unfolding digits node_numbers after fold same_cell terms_in_text choice number_at short_number_at decimals_at percent_at
    pieces trimmed_text argument_at chance_at count_at time_at task_at term_at terms_at reading
granted_then = refl
