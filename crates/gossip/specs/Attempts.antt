-- The peers for which a message was due, and what came of each.
use Rattle.std.specs.Prelude.{◌≢◌, ⊤, ℕ, List, [], ◌∷◌, replicate, slice_get, slice_set, unwrap_or, Option, Some, None, Result, Ok, Err}
use Rattle.std.specs.List.{flat_map}
use Rattle.message_format.specs.Limits.{max_nodes}
use Rattle.node_steps.specs.declared.config.Config.{Config}
use Rattle.node_calls.specs.declared.fault.NodeFault.TheVariants as faults
use Rattle.node_calls.specs.Asks.{bare_emit}
use Rattle.node_registry.specs.Receipts.{IsRefused}
use Rattle.gossip.specs.declared.failures.Attempt.{Attempt}
use Rattle.gossip.specs.declared.failures.Attempt.TheVariants.{NotDue, Sent, Failed}
use Rattle.gossip.specs.declared.failures.AttemptFault.{AttemptFault}
use Rattle.gossip.specs.declared.failures.AttemptFault.TheVariants.{Unreached, NotSent, NotMade}
use Rattle.gossip.specs.declared.failures.Failed as failures
use Rattle.gossip.specs.declared.wire.WireError.{WireError}
use Rattle.gossip.specs.Refused.{failed_as}

-- what came of a message, by why none was sent, if none was
abbrev pub attempt_by : Option AttemptFault → Attempt
attempt_by None = Sent
attempt_by (Some why) = Failed why

-- why it wasn't sent, by what sending it came to
abbrev pub why_of : {X : Type 0} → Result X WireError → Option AttemptFault
why_of (Ok done) = None
why_of (Err why) = Some (NotSent why)

-- why a peer that was reached wasn't sent a message: the wire failed, or the node refused to make one
abbrev pub IsWhy : Config → List ℕ → ℕ → AttemptFault → Type 0
IsWhy config seed peer Unreached = ⊥
IsWhy config seed peer (NotSent why) = ⊤
IsWhy config seed peer (NotMade fault) = IsRefused config seed (bare_emit peer) fault × (fault ≢ faults.OutOfMemory)

-- peers for which a message was due, and what came of it
abbrev pub Tries : Type 0
Tries = List (ℕ × Attempt)

-- of each node what came of its last message
abbrev pub no_attempts : List Attempt
no_attempts = replicate max_nodes NotDue

abbrev pub attempt_at : List Attempt → ℕ → Attempt
attempt_at attempts peer = unwrap_or (slice_get attempts peer) NotDue

abbrev pub with_tries : Tries → List Attempt → List Attempt
with_tries [] attempts = attempts
with_tries (t ∷ ts) attempts = with_tries ts (slice_set attempts t.0 t.1)

-- which of them failed, and why
abbrev pub failed_by : ℕ → Attempt → List failures.Failed
failed_by peer (Failed (NotSent why)) = failed_as peer why ∷ []
failed_by peer _ = []

abbrev pub failed_in : Tries → List failures.Failed
failed_in tries = flat_map (λ (t : ℕ × Attempt). failed_by t.0 t.1) tries
