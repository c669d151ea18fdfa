-- What is so of a message of the cluster is so of the bytes that spell one, which may be delivered.
use Rattle.std.proofs.Common.{◌≡◌, ℕ, ◌≤◌, List, [], length, sym, subst, Some, Ok}
use Rattle.counters.specs.Sums.{node_numbers}
use Rattle.operations.specs.Operations.{IsIn}
use Rattle.node_calls.specs.Asks.{Message, message_read}
use Rattle.node_calls.specs.Asks as asks
use Rattle.node_steps.specs.Nodes.{Node}
use Rattle.node_steps.specs.Refusals.{refusal_at}
use Rattle.node_core.specs.Traces.{refusal, delivery_of}
use Rattle.cluster_model.specs.Worlds.{Cluster, Event, config_of, world}
use Rattle.cluster_model.specs.Schedules.{Allows, IsSchedule}
use Rattle.cluster_model.specs.Laws.{kept, IsHonest, IsHonestReason}
use Rattle.cluster_model.proofs.Replays.{node_is_replay}
use Rattle.cluster_model.proofs.Honest.{honest_message, honest_reason}

module _ (c : Cluster) (es : List Event) (few : c.nodes ≤ node_numbers) (s : IsSchedule c es) (i : ℕ)
    (message : Message) where
  pub honest_messages : IsIn message (world c es).messages →
      IsHonest c es i message × IsHonestReason c es i message (refusal (kept c es i) (asks.Deliver (Ok message)) [])
  honest_messages h = (
    honest_message c es s i message h few,
    subst (λ (n : Node). IsHonestReason c es i message (refusal_at (config_of c i) (length ((world c es).trace i)) n
        (asks.Deliver (Ok message)) [])) (node_is_replay c es i)
        (honest_reason c es s i message h few),
  )

  pub honest_bytes : (bytes : List ℕ) → IsIn message (world c es).messages → message_read c.nodes bytes ≡ Ok message →
      Allows (world c es) i (Some (delivery_of (kept c es i) bytes)) × IsHonestReason c es i message
      (refusal (kept c es i) (delivery_of (kept c es i) bytes) [])
  honest_bytes bytes h read = (
    subst (λ r. Allows (world c es) i (Some (asks.Deliver r))) (sym read) h,
    subst (λ r. IsHonestReason c es i message (refusal (kept c es i) (asks.Deliver r) [])) (sym read)
        (honest_messages h).1,
  )
