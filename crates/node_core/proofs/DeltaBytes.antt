-- Bytes that tell what differs are those of the message that the node makes.
use Rattle.std.proofs.Common.{◌≡◌, ℕ, ◌==◌, Bool, true, false, cond, List, [], ◌∷◌, ◌++◌, ap, ◌∙◌}
use Rattle.replica_state.specs.Folds.{fold}
use Rattle.replica_state.specs.StateOrder.{IsBelow, below-refl, below-trans}
use Rattle.replica_state.proofs.KnownSets.{union_above_right}
use Rattle.message_format.specs.Messages.{MessageValue}
use Rattle.message_format.specs.Spelling.{message_bytes}
use Rattle.delta_exchange.specs.Differences.{difference_of}
use Rattle.delta_exchange.proofs.Differences.{is_difference}
use Rattle.node_calls.specs.Asks.{Asked, Call, Versions}
use Rattle.node_steps.specs.Nodes.{Node, start}
use Rattle.node_core.specs.Steps.{after, operations_added, version_after}
use Rattle.node_core.specs.Traces.{Kept, replay, replay_from, node_of, state_known}
use Rattle.node_core.specs.Deliveries.{TellsDelta, versions_in}
use Rattle.node_core.specs.Emissions.{message_emitted}

-- ---- the state at each version is below the state now, also at one that is still to come

abbrev IsPastBelow : Node → Type 0
IsPastBelow n = (version : ℕ) → IsBelow (n.past version) (fold n.ops)

past_below-after : (i : ℕ) (n : Node) (ask : Asked) (words : List ℕ) → IsPastBelow n → IsPastBelow (after i n ask words)
unfolding after
past_below-after i n ask words below version = by_test (version == version_after i n ask words)
  where
    by_test : (b : Bool) → IsBelow (cond b (fold (operations_added i n ask words ++ n.ops)) (n.past version))
        (fold (operations_added i n ask words ++ n.ops))
    by_test true = below-refl (fold (operations_added i n ask words ++ n.ops))
    by_test false = below-trans (n.past version) (fold n.ops) (fold (operations_added i n ask words ++ n.ops))
        (below version) (union_above_right (operations_added i n ask words) n.ops)

past_below-from : (i : ℕ) (n : Node) (trace : List Call) → IsPastBelow n → IsPastBelow (replay_from i n trace)
unfolding replay_from
past_below-from i n [] below = below
past_below-from i n (c ∷ trace) below = past_below-from i (after i n c.ask c.words) trace
    (past_below-after i n c.ask c.words below)

pub past_below : (i : ℕ) (trace : List Call) → IsPastBelow (replay i trace)
past_below i trace = past_below-from i start trace (λ version. below-refl (fold []))

-- ---- the message of an emit

pub delta_message_is : (k : Kept) (to : ℕ) (bytes : List ℕ) (tells : TellsDelta k to bytes) →
    tells.message ≡ message_emitted k to
delta_message_is k to bytes tells = same ∙ parts
  where
    -- by the versions and the nodes that the message tells
    difference : ℕ → ℕ → Versions → MessageValue
    difference from receiver told = difference_of ((node_of k).past told.base) (state_known k) k.config.nodes from
        receiver told.base told.upto told.ack

    same : tells.message ≡ difference tells.message.from tells.message.to (versions_in tells.message)
    same = is_difference ((node_of k).past tells.message.base) (node_of k).ops k.config.nodes tells.message
        (past_below k.config.node k.trace tells.message.base) tells.spelled.0 tells.delta

    parts : difference tells.message.from tells.message.to (versions_in tells.message) ≡ message_emitted k to
    parts = λ i. difference (tells.sender i) (tells.receiver i) (tells.versions i)

pub delta_bytes_are : (k : Kept) (to : ℕ) (bytes : List ℕ) → TellsDelta k to bytes →
    bytes ≡ message_bytes (message_emitted k to)
delta_bytes_are k to bytes tells = tells.spelled.1 ∙ ap message_bytes (delta_message_is k to bytes tells)
