-- Where each node sends what differs, no node refuses a message for what it says, nor the bytes that spell one.
use Rattle.std.proofs.Common.{◌≡◌, ℕ, false, List, [], length, sym, subst, Some, Ok}
use Rattle.operations.specs.Operations.{IsIn}
use Rattle.node_calls.specs.Asks.{Message, message_read}
use Rattle.node_calls.specs.Asks as asks
use Rattle.node_steps.specs.Nodes.{Node}
use Rattle.node_steps.specs.Refusals.{refusal_at}
use Rattle.node_core.specs.Traces.{refusal, delivery_of}
use Rattle.cluster_model.specs.Worlds.{Cluster, Event, config_of, world}
use Rattle.cluster_model.specs.Schedules.{AllowsDelta, IsDeltaSchedule}
use Rattle.cluster_model.specs.Laws.{kept, IsOwnReason, merge_overspends}
use Rattle.cluster_model.proofs.Replays.{node_is_replay}
use Rattle.cluster_model.proofs.Closed.{deltas_are_schedules}
use Rattle.cluster_model.proofs.Honest.{own_reason}
use Rattle.cluster_model.proofs.NotOverspent.{merge_not_overspent}

module _ (c : Cluster) (es : List Event) (s : IsDeltaSchedule c es) (i : ℕ) (message : Message) where
  pub delta_messages : IsIn message (world c es).messages → (message.to ≡ i → merge_overspends c es i message ≡ false) ×
      IsOwnReason (refusal (kept c es i) (asks.Deliver (Ok message)) [])
  delta_messages h = (
    merge_not_overspent c es s i message h,
    subst (λ (n : Node). IsOwnReason (refusal_at (config_of c i) (length ((world c es).trace i)) n
        (asks.Deliver (Ok message)) [])) (node_is_replay c es i)
        (own_reason c es (deltas_are_schedules c es s) i message h (merge_not_overspent c es s i message h)),
  )

  pub delta_message_bytes : (bytes : List ℕ) → IsIn message (world c es).messages →
      message_read c.nodes bytes ≡ Ok message →
      AllowsDelta (world c es) i (Some (delivery_of (kept c es i) bytes)) × IsOwnReason
      (refusal (kept c es i) (delivery_of (kept c es i) bytes) [])
  delta_message_bytes bytes h read = (
    subst (λ r. AllowsDelta (world c es) i (Some (asks.Deliver r))) (sym read) h,
    subst (λ r. IsOwnReason (refusal (kept c es i) (asks.Deliver r) [])) (sym read) (delta_messages h).1,
  )
