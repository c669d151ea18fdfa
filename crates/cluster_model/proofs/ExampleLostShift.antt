-- Why no lost message may have been delivered: a node that loses the call by which it moved a right has that right
-- again, and so has the node at which the message arrived.
use Rattle.std.proofs.Common.{◌≡◌, ℕ, List, [], ◌∷◌, ◌++◌, Ok, refl}
use Rattle.std.specs.Prelude.{reverse, codes}
use Rattle.std.specs.Fmt.{digits}
use Rattle.actions.specs.Choice.{choice}
use Rattle.actions.specs.Numbers.{number_at, short_number_at, decimals_at, percent_at}
use Rattle.actions.specs.Reading.{pieces, trimmed_text, argument_at, chance_at, count_at, time_at, task_at, term_at, terms_at, reading}
use Rattle.counters.specs.Sums.{node_numbers}
use Rattle.stamp_register.specs.Keys.{KeyValue, terms_in_text}
use Rattle.operations.specs.Operations.{Shifts, Operation, Set, Count, same_cell}
use Rattle.replica_state.specs.Folds.{fold}
use Rattle.node_calls.specs.Asks.{Message}
use Rattle.node_calls.specs.Asks as asks
use Rattle.node_core.specs.Steps.{after}
use Rattle.node_core.specs.Traces.{replay_from}
use Rattle.cluster_model.specs.Histories.{all_executions}
use Rattle.cluster_model.proofs.Examples.{nodes, event, stamp, key_at, first_told, message}
use Rattle.cluster_model.specs.Lives.{Turn, is_asked, is_restarted, life, run_of, executions_in}

abbrev a : List ℕ
a = codes "a"

abbrev key : KeyValue
key = key_at 1 0 (codes "2*off")

abbrev first : Message
first = message 0 1 1 (Set a key ∷ [])

abbrev moves : List Operation
moves = Count (Shifts a key 0 0 1) 1 ∷ Set a key ∷ []

abbrev second : Message
second = message 0 1 2 moves

-- node 0 moves one of its two rights to node 1, and sends that
abbrev moved : List Turn
moved =
    is_asked (event 0 (asks.Set a (codes "2*off"))) ∷
    is_asked (event 0 (asks.Emit 1 (first_told 1) (Set a key ∷ []))) ∷
    is_asked (event 1 (asks.Deliver (Ok first))) ∷
    is_asked (event 0 (asks.Shift a 0 1 1)) ∷
    is_asked (event 0 (asks.Emit 1 (first_told 2) moves)) ∷ []

-- it ends, and restarts from its first two calls, without the shift; then both nodes pass
abbrev back : List Turn
back =
    is_restarted 0 2 ∷
    is_asked (event 0 (asks.Pass a)) ∷
    is_asked (event 0 (asks.Pass a)) ∷
    is_asked (event 1 (asks.Pass a)) ∷ []

-- where the message wasn't delivered, the term is executed twice, as in the run without the lost calls
within : executions_in (nodes 2) (life (nodes 2) (reverse (moved ++ back))) (stamp 1 0) 0 ≡ 2
unfolding digits node_numbers after fold same_cell terms_in_text choice number_at short_number_at decimals_at percent_at
    pieces trimmed_text argument_at chance_at count_at time_at task_at term_at terms_at reading replay_from
within = refl

within_run : all_executions (nodes 2) (run_of (nodes 2) (reverse (moved ++ back))) (stamp 1 0) 0 ≡ 2
unfolding digits node_numbers after fold same_cell terms_in_text choice number_at short_number_at decimals_at percent_at
    pieces trimmed_text argument_at chance_at count_at time_at task_at term_at terms_at reading replay_from
within_run = refl

-- where it was, three times: `IsConsistent` can't be dropped
overspent : executions_in (nodes 2)
    (life (nodes 2) (reverse (moved ++ (is_asked (event 1 (asks.Deliver (Ok second))) ∷ back)))) (stamp 1 0) 0 ≡ 3
unfolding digits node_numbers after fold same_cell terms_in_text choice number_at short_number_at decimals_at percent_at
    pieces trimmed_text argument_at chance_at count_at time_at task_at term_at terms_at reading replay_from
overspent = refl
